use Rattle.std.proofs.Common.{◌≡◌, ◌-◌, ◌∷◌, List, length, take, drop, get_or, false, subst}
use Rattle.std.specs.List.{flat_map}
use Rattle.p9_types.specs.declared.level.Standing.{Standing}
use Rattle.p9_types.specs.Levels.{tally, together}
use Rattle.p9_types.specs.Offsets.{kept_if}
use Rattle.p9_types.specs.Standings.{spread}
use Rattle.p9_types.specs.Sightings.{told_sought}
use Rattle.p9_types.proofs.Lists.{first_or, empty_below}
use Rattle.p9_types.proofs.NamedMembers.{level_step, level_last}
use Rattle.p9_types.proofs.substructure.standing_at.Goals as goal

abbrev none : Standing
none = record { tag = 0; offset = 0; several = false }

pub standings-preserved : goal.standings-preserved
standings-preserved c =
    let first : Standing = get_or c.standings.rest.now 0 none in
    let others : List Standing = take (length c.standings.rest.now - 1) (drop 1 c.standings.rest.now) in
    let whole : c.standings.rest.now ≡ first ∷ others = first_or c.standings.rest.now none c.in-len1-up.len_at_least in
    level_step (kept_if c.args.tag) first others (told_sought c.standings.found) (told_sought c.standing_here.result) (told_sought c.and-found.result)
    (tally (flat_map (kept_if c.args.tag) (spread c.args.level.now))) c.and-found.ensures c.standing_here.ensures
    (subst (λ ss. together (told_sought c.standings.found) (tally (flat_map (kept_if c.args.tag) (spread ss))) ≡ tally (flat_map (kept_if c.args.tag) (spread c.args.level.now))) whole c.standings.invariant)

pub returns : goal.returns
returns c =
    level_last (kept_if c.args.tag) c.standings.rest.now (told_sought c.standings.found) (tally (flat_map (kept_if c.args.tag) (spread c.args.level.now)))
    (empty_below c.standings.rest.now c.in_default.len_below) c.standings.invariant
