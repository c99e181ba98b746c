use Rattle.std.proofs.Common.{sym, ◌∙◌}
use Rattle.p9_tree_build.proofs.Naming.{name_found, name_inside, name_absent, name_other}
use Rattle.p9_tree_build.proofs.told.is_name.Goals as goal

pub returns-in-DeclName : goal.returns-in-DeclName
returns-in-DeclName c = sym (name_found c.loop-inner.inner.now c.in-DeclName.field-0 c.in-DeclName.is) ∙ c.loop-inner.invariant

pub returns-in-empty : goal.returns-in-empty
returns-in-empty c = sym (name_absent c.loop-inner.inner.now c.as_slice.result.now c.in-DeclParens.is c.as_slice.ensures c.in-empty.len_below) ∙ c.loop-inner.invariant

pub loop-inner-preserved : goal.loop-inner-preserved
loop-inner-preserved c =
    sym (name_inside c.loop-inner.inner.now c.first-item.result c.as_slice.result.now c.in-DeclParens.is c.as_slice.ensures c.in-len1-up.len_at_least c.first-item.is)
    ∙ c.loop-inner.invariant

pub returns-in_default : goal.returns-in_default
returns-in_default c = sym (name_other c.loop-inner.inner.now c.in_default.not-DeclName c.in_default.not-DeclParens) ∙ c.loop-inner.invariant
