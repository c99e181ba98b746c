use Rattle.std.proofs.Common.{take}
use Rattle.p9_names.proofs.Chosen.{Knows}
use Rattle.p9_names.proofs.definitions.definitions.Given as goal

abbrev pub invariant-loop-at : goal.invariant-loop-at
invariant-loop-at l = Knows l.linked (take l.at l.globals) l.defs.entries
