use Rattle.p9_verdict.proofs.access.index_verdict.Goals as goal

pub returns : goal.returns
returns c = c.as_object.ensures _ c.element_type.ensures
