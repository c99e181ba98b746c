use Rattle.std.proofs.Common.{◌≡◌, ◌++◌, map}
use Rattle.p9_region.specs.Picking.{picked, is_root, region_at}
use Rattle.p9_region.proofs.groups.add_groups.Given as goal

abbrev pub invariant-loop-r : goal.invariant-loop-r
invariant-loop-r l = l.regions.items ≡ l.fn.regions.items ++ map (region_at l.v l.points l.labels) (picked (is_root l.labels) l.r)
