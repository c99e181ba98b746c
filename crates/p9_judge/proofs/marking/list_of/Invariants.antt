use Rattle.std.proofs.Common.{◌≡◌, ◌++◌, reverse, length}
use Rattle.p9_judge.proofs.marking.list_of.Given as goal

abbrev pub invariant-tags : goal.invariant-tags
invariant-tags l = l.left ++ reverse l.list.items ≡ l.fn.tags.list

abbrev pub decreases-tags : goal.decreases-tags
decreases-tags l = length l.left
