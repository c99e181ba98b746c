use Rattle.std.proofs.Common.{◌≤◌, ◌-◌, length}
use Rattle.p9_region.specs.Labels.{IsMerging}
use Rattle.p9_region.proofs.classes.merge.Given as goal

abbrev pub invariant-loop-i : goal.invariant-loop-i
invariant-loop-i l = (l.i ≤ length l.edges) × IsMerging l.edges l.initial.labels l.labels l.i l.changed

abbrev pub decreases-loop-i : goal.decreases-loop-i
decreases-loop-i l = length l.edges - l.i
