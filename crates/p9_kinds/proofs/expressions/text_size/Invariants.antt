use Rattle.std.proofs.Common.{◌≡◌, ◌+◌, length, map, sum, take}
use Rattle.p9_kinds.proofs.expressions.text_size.Given as goal

abbrev pub invariant-texts : goal.invariant-texts
invariant-texts l = l.size ≡ sum (map length (take l.text-index l.texts)) + 1
