use Rattle.std.proofs.Common.{◌≡◌, suc}
use Rattle.std.specs.List.{flat_map}
use Rattle.p9_lang.specs.Types.{tags_of}
use Rattle.p9_lang.specs.Members.{Nowhere, find_substructure}
use Rattle.p9_types.specs.Told.{IsSound}
use Rattle.p9_types.specs.Offsets.{kept_offset, kept_if}
use Rattle.p9_types.specs.Levels.{tally}
use Rattle.p9_types.specs.Sightings.{sought_map}
use Rattle.p9_types.specs.Standings.{spread, met_by}
use Rattle.p9_types.proofs.Loops.{Searches}
use Rattle.p9_types.proofs.substructure.find_below.Given as goal

abbrev pub invariant-levels : goal.invariant-levels
invariant-levels l = record {
  sound : IsSound (tags_of l.tags) l.known.map.entries;
  searches : Searches (tags_of l.tags) (kept_if l.inner) (sought_map kept_offset (find_substructure (tags_of l.tags) l.outer l.inner)) (suc l.depth) (met_by l.met) (spread l.level.items);
  none : tally (flat_map (kept_if l.inner) (spread l.level.items)) ≡ Nowhere;
}

abbrev pub decreases-levels : goal.decreases-levels
decreases-levels l = l.depth
