use Rattle.std.proofs.Common.{◌≡◌, ◌++◌, length}
use Rattle.p9_lang.specs.Types.{members_of}
use Rattle.p9_types.specs.Reaching.{inner_of_members}
use Rattle.p9_types.specs.Tasks.{visits}
use Rattle.p9_types.proofs.reaching.push_visits.Given as goal

abbrev pub invariant-members : goal.invariant-members
invariant-members l =
    l.tasks.items ++ visits (inner_of_members (members_of l.rest)) ≡ l.initial.tasks.items ++ visits (inner_of_members (members_of l.members))

abbrev pub decreases-members : goal.decreases-members
decreases-members l = length l.rest
