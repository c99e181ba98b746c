use Rattle.std.proofs.Common.{◌≡◌, length}
use Rattle.p9_lang.specs.Types.{members_of}
use Rattle.p9_opening.specs.Filling.{first_named}
use Rattle.p9_opening.proofs.members.first_named.Given as goal

abbrev pub invariant-members : goal.invariant-members
invariant-members l = first_named l.name l.number (members_of l.rest) ≡ first_named l.name 0 (members_of l.members)

abbrev pub decreases-members : goal.decreases-members
decreases-members l = length l.rest
