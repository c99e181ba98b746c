use Rattle.std.proofs.Common.{◌≡◌, reverse, take}
use Rattle.p9_decl.proofs.phrase.copied.Given as goal

abbrev pub invariant-loop-level : goal.invariant-loop-level
invariant-loop-level l = l.copy.levels ≡ reverse (take l.level-index l.level-items)
