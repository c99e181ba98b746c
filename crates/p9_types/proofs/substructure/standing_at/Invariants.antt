use Rattle.std.proofs.Common.{◌≡◌, length}
use Rattle.std.specs.List.{flat_map}
use Rattle.p9_types.specs.Levels.{tally, together}
use Rattle.p9_types.specs.Offsets.{kept_if}
use Rattle.p9_types.specs.Standings.{spread}
use Rattle.p9_types.specs.Sightings.{told_sought}
use Rattle.p9_types.proofs.substructure.standing_at.Given as goal

abbrev pub invariant-standings : goal.invariant-standings
invariant-standings l = together (told_sought l.found) (tally (flat_map (kept_if l.tag) (spread l.rest))) ≡ tally (flat_map (kept_if l.tag) (spread l.level))

abbrev pub decreases-standings : goal.decreases-standings
decreases-standings l = length l.rest
