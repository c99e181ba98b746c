use Rattle.std.proofs.Common.{◌≡◌, take}
use Rattle.std.specs.List.{filter}
use Rattle.p9_region.specs.Picking.{point_bit}
use Rattle.p9_region.proofs.points.points.Given as goal

abbrev pub invariant-loop-i : goal.invariant-loop-i
invariant-loop-i l = l.points.items ≡ filter (point_bit l.steps l.bits l.width l.v) (take l.i-index l.column)
