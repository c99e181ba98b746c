use Rattle.std.proofs.Common.{◌-◌, ◌++◌, length, take, drop, sym, ap, ◌∙◌}
use Rattle.p9_lang.specs.Types.{type_of, members_of}
use Rattle.p9_types.specs.Reaching.{inner_of, inner_of_members}
use Rattle.p9_types.specs.Tasks.{visits}
use Rattle.p9_types.proofs.Lists.{first_and_others}
use Rattle.p9_types.proofs.Advancing.{visits_step}
use Rattle.p9_types.proofs.reaching.push_visits.Goals as goal

pub members-preserved : goal.members-preserved
members-preserved c =
    visits_step c.members.tasks.items c.push_visit.new.tasks.items (inner_of (type_of c.member-item.result.ty))
    (inner_of_members (members_of (take (length c.members.rest.now - 1) (drop 1 c.members.rest.now)))) c.in_ok-push_visit.ensures
    ∙ sym (ap (λ ms. c.members.tasks.items ++ visits (inner_of_members (members_of ms))) (first_and_others c.members.rest.now c.member-item.result c.in-len1-up.len_at_least c.member-item.is))
    ∙ c.members.invariant
