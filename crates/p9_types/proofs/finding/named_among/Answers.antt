use Rattle.std.proofs.Common.{◌≡◌, ◌-◌, ◌∷◌, List, length, take, drop, ap, subst}
use Rattle.p9_types.specs.declared.placing.Placing.{Placing}
use Rattle.p9_types.specs.Levels.{tally, together}
use Rattle.p9_types.specs.Standings.{placing_of, all_placed, part_of}
use Rattle.p9_types.specs.Sightings.{told_sought, named_among}
use Rattle.p9_types.proofs.Lists.{first_and_others, empty_below}
use Rattle.p9_types.proofs.NamedMembers.{named_step, named_last}
use Rattle.p9_types.proofs.finding.named_among.Goals as goal

pub placings-preserved : goal.placings-preserved
placings-preserved c =
    let others : List Placing = take (length c.placings.rest.now - 1) (drop 1 c.placings.rest.now) in
    let whole : c.placings.rest.now ≡ c.placing-item.result ∷ others =
    first_and_others c.placings.rest.now c.placing-item.result c.in-len1-up.len_at_least c.placing-item.is in
    named_step c.args.name.now (part_of c.args.standing) (placing_of c.placing-item.result) (all_placed others)
    (told_sought c.placings.found) (told_sought c.named_here.result) (told_sought c.and-found.result) (tally (named_among c.args.name.now (part_of c.args.standing) (all_placed c.args.placings.now)))
    c.and-found.ensures c.named_here.ensures
    (subst (λ ps. together (told_sought c.placings.found) (tally (named_among c.args.name.now (part_of c.args.standing) (all_placed ps)))
    ≡ tally (named_among c.args.name.now (part_of c.args.standing) (all_placed c.args.placings.now))) whole c.placings.invariant)

pub returns : goal.returns
returns c =
    named_last c.args.name.now (part_of c.args.standing) (all_placed c.placings.rest.now) (told_sought c.placings.found)
    (tally (named_among c.args.name.now (part_of c.args.standing) (all_placed c.args.placings.now)))
    (ap all_placed (empty_below c.placings.rest.now c.in_default.len_below)) c.placings.invariant
