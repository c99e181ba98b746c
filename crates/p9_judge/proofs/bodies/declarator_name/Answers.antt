use Rattle.std.proofs.Common.{sym, ◌∙◌}
use Rattle.p9_types.proofs.Lists.{first_and_others, empty_below}
use Rattle.p9_judge.proofs.Nodes.{part_smaller}
use Rattle.p9_judge.proofs.BodyNames.{named_inside, named_nowhere}
use Rattle.p9_judge.proofs.bodies.declarator_name.Goals as goal

pub returns-in_default-as_slice : goal.returns-in_default-as_slice
returns-in_default-as_slice c =
    c.nameless.ensures
    ∙ sym (named_nowhere c.inwards.inner.now (sym c.in_default.ensures) (sym c.as_slice.ensures ∙ empty_below c.as_slice.result.now c.in_default-as_slice.len_below))
    ∙ c.inwards.invariant

pub inwards-smaller : goal.inwards-smaller
inwards-smaller c =
    part_smaller c.inwards.inner.now c.first-item.result _
    (sym c.as_slice.ensures ∙ first_and_others c.as_slice.result.now c.first-item.result c.in-len1-up.len_at_least c.first-item.is)

pub inwards-preserved : goal.inwards-preserved
inwards-preserved c =
    sym (named_inside c.inwards.inner.now c.first-item.result _ (sym c.in_default.ensures)
    (sym c.as_slice.ensures ∙ first_and_others c.as_slice.result.now c.first-item.result c.in-len1-up.len_at_least c.first-item.is))
    ∙ c.inwards.invariant
