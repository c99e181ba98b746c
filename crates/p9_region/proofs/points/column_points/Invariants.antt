use Rattle.std.proofs.Common.{◌≡◌}
use Rattle.p9_region.specs.Picking.{picked, column_bit}
use Rattle.p9_region.proofs.points.column_points.Given as goal

abbrev pub invariant-loop-i : goal.invariant-loop-i
invariant-loop-i l = l.points.items ≡ picked (column_bit l.steps l.bits l.width l.word) l.i
