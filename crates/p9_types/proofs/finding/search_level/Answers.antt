use Rattle.std.proofs.Common.{◌≡◌, ◌-◌, ◌∷◌, List, length, take, drop, get_or, false, subst}
use Rattle.std.specs.List.{flat_map}
use Rattle.p9_lang.specs.Types.{tags_of}
use Rattle.p9_types.specs.declared.level.Standing.{Standing}
use Rattle.p9_types.specs.Levels.{tally, together}
use Rattle.p9_types.specs.Standings.{spread}
use Rattle.p9_types.specs.Sightings.{told_sought, named_places}
use Rattle.p9_types.proofs.Lists.{first_or, empty_below}
use Rattle.p9_types.proofs.NamedMembers.{level_step, level_last}
use Rattle.p9_types.proofs.finding.search_level.Goals as goal

abbrev none : Standing
none = record { tag = 0; offset = 0; several = false }

pub standings-preserved : goal.standings-preserved
standings-preserved c =
    let first : Standing = get_or c.standings.rest.now 0 none in
    let others : List Standing = take (length c.standings.rest.now - 1) (drop 1 c.standings.rest.now) in
    let whole : c.standings.rest.now ≡ first ∷ others = first_or c.standings.rest.now none c.in-len1-up.len_at_least in
    record {
      sound = c.in_ok-here.ensures.sound;
      found = level_step (named_places (tags_of c.args.tags.now) c.args.name.now) first others
          (told_sought c.standings.found) (told_sought c.in_ok-here.here) (told_sought c.and-found.result)
          (tally (flat_map (named_places (tags_of c.args.tags.now) c.args.name.now) (spread c.args.level.now)))
          c.and-found.ensures c.in_ok-here.ensures.found
          (subst (λ ss. together (told_sought c.standings.found) (tally (flat_map (named_places (tags_of c.args.tags.now) c.args.name.now) (spread ss)))
          ≡ tally (flat_map (named_places (tags_of c.args.tags.now) c.args.name.now) (spread c.args.level.now))) whole c.standings.invariant.found);
    }

pub returns-clause-found : goal.returns-clause-found
returns-clause-found c =
    level_last (named_places (tags_of c.args.tags.now) c.args.name.now) c.standings.rest.now (told_sought c.standings.found)
    (tally (flat_map (named_places (tags_of c.args.tags.now) c.args.name.now) (spread c.args.level.now)))
    (empty_below c.standings.rest.now c.in_default.len_below) c.standings.invariant.found
