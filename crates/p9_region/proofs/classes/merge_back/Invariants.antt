use Rattle.std.proofs.Common.{◌≤◌, length, sum}
use Rattle.p9_region.specs.Labels.{AreLabels}
use Rattle.p9_region.proofs.classes.merge_back.Given as goal

abbrev pub invariant-loop-i : goal.invariant-loop-i
invariant-loop-i l = (l.i ≤ length l.edges) × AreLabels l.edges l.labels × (sum l.labels ≤ sum l.initial.labels)

abbrev pub decreases-loop-i : goal.decreases-loop-i
decreases-loop-i l = l.i
