use Rattle.std.proofs.Common.{[], List, length}
use Rattle.std.specs.List.{flat_map}
use Rattle.p9_lang.specs.Types.{tags_of}
use Rattle.p9_lang.specs.Members.{Part}
use Rattle.p9_types.specs.Told.{IsSound}
use Rattle.p9_types.specs.Offsets.{cut_inner}
use Rattle.p9_types.specs.Levels.{Adds, unmet}
use Rattle.p9_types.specs.Standings.{spread, spread_entries, met_by}
use Rattle.p9_types.proofs.descending.descend.Given as goal

abbrev pub invariant-standings : goal.invariant-standings
invariant-standings l = record {
  sound : IsSound (tags_of l.tags) l.known.map.entries;
  adds : (later : List Part)
      → Adds (spread_entries l.next.places.entries) (unmet (met_by l.met) (flat_map (cut_inner (tags_of l.tags)) (spread l.rest))) later
      → Adds [] (unmet (met_by l.met) (flat_map (cut_inner (tags_of l.tags)) (spread l.level))) later;
}

abbrev pub decreases-standings : goal.decreases-standings
decreases-standings l = length l.rest
