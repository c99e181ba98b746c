use Rattle.std.proofs.Common.{◌≡◌, length}
use Rattle.std.specs.List.{flat_map}
use Rattle.p9_lang.specs.Types.{tags_of}
use Rattle.p9_types.specs.Told.{IsSound}
use Rattle.p9_types.specs.Levels.{tally, together}
use Rattle.p9_types.specs.Standings.{spread}
use Rattle.p9_types.specs.Sightings.{told_sought, named_places}
use Rattle.p9_types.proofs.finding.search_level.Given as goal

abbrev pub invariant-standings : goal.invariant-standings
invariant-standings l = record {
  sound : IsSound (tags_of l.tags) l.known.map.entries;
  found : together (told_sought l.found) (tally (flat_map (named_places (tags_of l.tags) l.name) (spread l.rest)))
      ≡ tally (flat_map (named_places (tags_of l.tags) l.name) (spread l.level));
}

abbrev pub decreases-standings : goal.decreases-standings
decreases-standings l = length l.rest
