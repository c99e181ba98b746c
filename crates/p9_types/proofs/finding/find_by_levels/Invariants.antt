use Rattle.std.proofs.Common.{[], ◌∷◌, length}
use Rattle.p9_lang.specs.Types.{tags_of}
use Rattle.p9_lang.specs.Members.{sought, whole}
use Rattle.p9_types.specs.Told.{IsSound}
use Rattle.p9_types.specs.Standings.{spread, met_by}
use Rattle.p9_types.specs.Sightings.{named_places}
use Rattle.p9_types.proofs.Loops.{Searches}
use Rattle.p9_types.proofs.finding.find_by_levels.Given as goal

abbrev pub invariant-levels : goal.invariant-levels
invariant-levels l = record {
  sound : IsSound (tags_of l.tags) l.known.map.entries;
  searches : Searches (tags_of l.tags) (named_places (tags_of l.tags) l.name) (sought (length (tags_of l.tags)) (tags_of l.tags) (named_places (tags_of l.tags) l.name) (whole l.tag ∷ []))
      l.depth (met_by l.met) (spread l.level.items);
}

abbrev pub decreases-levels : goal.decreases-levels
decreases-levels l = l.depth
