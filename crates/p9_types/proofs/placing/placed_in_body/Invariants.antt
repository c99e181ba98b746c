use Rattle.std.proofs.Common.{◌≡◌, ◌++◌, length, map}
use Rattle.p9_lang.specs.Types.{members_of, tags_of}
use Rattle.p9_lang.specs.Layout.{nothing_yet}
use Rattle.p9_lang.specs.Members.{placed_from}
use Rattle.p9_types.specs.Told.{IsSound, told}
use Rattle.p9_types.specs.Offsets.{cut_placed}
use Rattle.p9_types.specs.Standings.{all_placed}
use Rattle.p9_types.proofs.placing.placed_in_body.Given as goal

abbrev pub invariant-members : goal.invariant-members
invariant-members l = record {
  sound : IsSound (tags_of l.tags) l.known.map.entries;
  placed : all_placed l.placings.items ++ map cut_placed (placed_from (tags_of l.tags) l.is_union (told l.so_far) l.number (members_of l.rest))
      ≡ map cut_placed (placed_from (tags_of l.tags) l.is_union nothing_yet 0 (members_of l.members));
}

abbrev pub decreases-members : goal.decreases-members
decreases-members l = length l.rest
