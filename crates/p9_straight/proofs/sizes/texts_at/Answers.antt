use Rattle.std.proofs.Common.{arith, sym, ◌∙◌}
use Rattle.p9_straight.proofs.BuildLists.{uncons_is}
use Rattle.p9_straight.proofs.BuildSizes.{texts_turn, texts_end}
use Rattle.p9_straight.proofs.sizes.texts_at.Goals as goal

pub overflow_add-here : goal.overflow_add-here
overflow_add-here c = omega (arith, c.in-len1-up.len_at_least, c.variables_size-here.ensures.small, c.loop-rest.invariant.3)

pub returns-then-is_some-clause-small : goal.returns-then-is_some-clause-small
returns-then-is_some-clause-small c =
    texts_end _ _ _ _ _ _ c.args.files.now (uncons_is c.loop-rest.rest.now _ c.in-len1-up.len_at_least c.file-item.is) (sym c.is_some.ensures ∙ c.if-is_some.true) c.variables_size-here.ensures.small c.loop-rest.invariant.1 c.loop-rest.invariant.3

pub loop-rest-preserved : goal.loop-rest-preserved
loop-rest-preserved c =
    texts_turn _ _ _ _ _ _ c.args.files.now (uncons_is c.loop-rest.rest.now _ c.in-len1-up.len_at_least c.file-item.is) (sym c.is_some.ensures ∙ c.if-is_some.false) c.variables_size-here.ensures.exact (omega arith) c.loop-rest.invariant
