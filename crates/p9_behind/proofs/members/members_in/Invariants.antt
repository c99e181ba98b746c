use Rattle.std.proofs.Common.{◌≡◌, ◌++◌, length}
use Rattle.p9_lang.specs.Types.{members_of}
use Rattle.p9_lang.specs.Parts.{members_in}
use Rattle.p9_parts.specs.Told.{parts_of}
use Rattle.p9_behind.proofs.members.members_in.Given as goal

abbrev pub invariant-parts : goal.invariant-parts
invariant-parts l = members_of l.all ++ members_in (parts_of l.rest) ≡ members_in (parts_of l.before)

abbrev pub decreases-parts : goal.decreases-parts
decreases-parts l = length l.rest
