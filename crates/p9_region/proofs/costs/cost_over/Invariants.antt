use Rattle.std.proofs.Common.{◌≡◌, ◌*◌, ◌≤◌, sum_by, take}
use Rattle.p9_region.specs.Costs.{cost_in}
use Rattle.p9_region.proofs.costs.cost_over.Given as goal

abbrev pub invariant-loop-i : goal.invariant-loop-i
invariant-loop-i l = (l.total ≡ sum_by (cost_in l.code l.depths l.v) (take l.i-index l.points)) × (l.total ≤ 65536 * l.i-index)
