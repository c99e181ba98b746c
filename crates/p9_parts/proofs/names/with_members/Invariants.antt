use Rattle.std.proofs.Common.{◌≡◌, ◌++◌, map, length}
use Rattle.p9_lang.specs.Types.{members_of}
use Rattle.p9_parts.proofs.names.with_members.Given as goal

abbrev pub invariant-members : goal.invariant-members
invariant-members l = l.so_far ++ map (λ m. m.name) (members_of l.rest) ≡ l.fn.names ++ map (λ m. m.name) (members_of l.fn.members)

abbrev pub decreases-members : goal.decreases-members
decreases-members l = length l.rest
