use Rattle.std.proofs.Common.{ap, ◌∙◌}
use Rattle.p9_lang.specs.Types.{tags_of}
use Rattle.p9_types.specs.Standings.{all_placed, part_of, spread_entries, met_by}
use Rattle.p9_types.proofs.Unnamed.{entered_cut}
use Rattle.p9_types.proofs.descending.enter.Goals as goal

pub returns-clause-adds : goal.returns-clause-adds
returns-clause-adds c =
    entered_cut (tags_of c.args.tags.now) (spread_entries c.args.next.now.places.entries) (spread_entries c.add_members.new.next.places.entries) c.args.standing.several (met_by c.args.met.now)
    (part_of c.args.standing) (all_placed c.as_slice.result.now) (ap all_placed c.as_slice.ensures.value ∙ c.in_ok-placings.ensures.placed) c.in_ok-add_members.ensures
