use Rattle.std.proofs.Common.{take}
use Rattle.p9_homes.specs.Tables.{AreMarked}
use Rattle.p9_homes.proofs.tables.mark.Given as goal

abbrev pub invariant-loop-i : goal.invariant-loop-i
invariant-loop-i l = AreMarked (take l.i-index l.points) l.v l.g l.initial.cells l.cells
