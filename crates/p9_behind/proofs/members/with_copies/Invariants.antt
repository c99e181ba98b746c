use Rattle.std.proofs.Common.{◌≡◌, ◌++◌, length}
use Rattle.p9_behind.proofs.members.with_copies.Given as goal

abbrev pub invariant-members : goal.invariant-members
invariant-members l = l.all ++ l.rest ≡ l.fn.members ++ l.others

abbrev pub decreases-members : goal.decreases-members
decreases-members l = length l.rest
