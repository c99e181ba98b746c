use Rattle.std.proofs.Common.{◌≡◌, slice_index, map}
use Rattle.p9_region.specs.Picking.{picked, has_label}
use Rattle.p9_region.proofs.groups.members.Given as goal

abbrev pub invariant-loop-k : goal.invariant-loop-k
invariant-loop-k l = l.list.items ≡ map (slice_index l.points) (picked (has_label l.labels l.r) l.k)
