use Rattle.std.proofs.Common.{◌≡◌, length}
use Rattle.p9_types.specs.Levels.{tally, together}
use Rattle.p9_types.specs.Standings.{all_placed, part_of}
use Rattle.p9_types.specs.Sightings.{told_sought, named_among}
use Rattle.p9_types.proofs.finding.named_among.Given as goal

abbrev pub invariant-placings : goal.invariant-placings
invariant-placings l =
    together (told_sought l.found) (tally (named_among l.name (part_of l.standing) (all_placed l.rest)))
    ≡ tally (named_among l.name (part_of l.standing) (all_placed l.placings))

abbrev pub decreases-placings : goal.decreases-placings
decreases-placings l = length l.rest
