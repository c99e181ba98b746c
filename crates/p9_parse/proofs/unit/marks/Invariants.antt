use Rattle.std.proofs.Common.{◌≡◌, take}
use Rattle.p9_parse.proofs.unit.marks.Given as goal

abbrev pub invariant-loop-name : goal.invariant-loop-name
invariant-loop-name l = l.marks ≡ take l.name-index l.names
