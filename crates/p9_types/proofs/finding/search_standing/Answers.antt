use Rattle.std.proofs.Common.{ap, ◌∙◌}
use Rattle.p9_lang.specs.Types.{tags_of}
use Rattle.p9_lang.specs.Members.{placed}
use Rattle.p9_types.specs.Levels.{tally}
use Rattle.p9_types.specs.Standings.{all_placed, part_of}
use Rattle.p9_types.specs.Sightings.{told_sought, named_among, named_places}
use Rattle.p9_types.proofs.NamedMembers.{copies_tally, named_cut}
use Rattle.p9_types.proofs.finding.search_standing.Goals as goal

pub returns-clause-found : goal.returns-clause-found
returns-clause-found c =
    copies_tally (named_places (tags_of c.args.tags.now) c.args.name.now) c.args.standing.several (part_of c.args.standing)
    (told_sought c.named_among-found.result) (told_sought c.repeated.result)
    (c.named_among-found.ensures ∙ ap (λ ms. tally (named_among c.args.name.now (part_of c.args.standing) ms)) (ap all_placed c.as_slice.ensures.value ∙ c.in_ok-placings.ensures.placed)
    ∙ ap tally (named_cut c.args.name.now (part_of c.args.standing) (placed (tags_of c.args.tags.now) c.args.standing.tag)))
    c.repeated.ensures
