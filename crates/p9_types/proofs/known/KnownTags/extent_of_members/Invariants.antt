use Rattle.std.proofs.Common.{length}
use Rattle.p9_lang.specs.Types.{members_of}
use Rattle.p9_lang.specs.Layout.{filled, nothing_yet}
use Rattle.p9_types.specs.Capping.{Alike}
use Rattle.p9_types.specs.Told.{told, known_extent}
use Rattle.p9_types.proofs.known.KnownTags.extent_of_members.Given as goal

abbrev pub invariant-members : goal.invariant-members
invariant-members l =
    Alike (filled (known_extent l.self.map.entries) l.is_union (told l.so_far) (members_of l.rest))
    (filled (known_extent l.self.map.entries) l.is_union nothing_yet (members_of l.members))

abbrev pub decreases-members : goal.decreases-members
decreases-members l = length l.rest
