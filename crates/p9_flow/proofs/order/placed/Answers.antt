use Rattle.std.proofs.Common.{arith, refl, rules, slice_index, ◌∙◌}
use Rattle.std.proofs.lemmas.List.{length-set}
use Rattle.std.proofs.lemmas.List.Elements.{Contains-get_or}
use Rattle.p9_flow.proofs.Ordering.{named-none, named-more}
use Rattle.p9_flow.proofs.order.placed.Goals as goal

pub loop-i-init : goal.loop-i-init
loop-i-init c = (search rules, named-none c.args.n _ c.args.order.now (c.in_ok-placed.ensures.items_if_clones_equal (λ y e. e)))

pub loop-i-preserved : goal.loop-i-preserved
loop-i-preserved c = (
  length-set c.loop-i.placed.items _ _ ∙ c.loop-i.invariant.0,
  named-more c.loop-i.placed.items _ c.args.order.now (slice_index c.args.order.now c.loop-i.i-index) refl (Contains-get_or c.args.order.now c.loop-i.i-index 0 (omega arith)) c.loop-i.invariant.1,
)
