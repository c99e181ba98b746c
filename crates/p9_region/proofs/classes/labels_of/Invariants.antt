use Rattle.std.proofs.Common.{◌≡◌, length, sum}
use Rattle.p9_region.specs.Labels.{AreLabels}
use Rattle.p9_region.proofs.classes.labels_of.Given as goal

abbrev pub invariant-loop-labels : goal.invariant-loop-labels
invariant-loop-labels l = (length l.labels.items ≡ l.n) × AreLabels l.edges l.labels.items

abbrev pub decreases-loop-labels : goal.decreases-loop-labels
decreases-loop-labels l = sum l.labels.items
