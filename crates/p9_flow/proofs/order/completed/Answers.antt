use Rattle.std.proofs.Common.{arith, ◌≡◌, ◌<◌, length, subst, refl, All, ◌∙◌, ap}
use Rattle.p9_flow.proofs.Ordering.{named-kept, each-more}
use Rattle.p9_flow.proofs.order.completed.Goals as goal

pub loop-i-preserved : goal.loop-i-preserved
loop-i-preserved c =
    let n : length c.deref-in-loop-i.result.now ≡ c.args.n = ap length c.deref-in-loop-i.ensures.value ∙ c.in_ok-placed.ensures.count in (
      subst (λ n. All (λ k. k < n) c.add_missing.new.order.items) n c.in_ok-add_missing.ensures.within,
      named-kept c.in_ok-placed.placed.items _ c.loop-i.order.items c.add_missing.new.order.items refl c.in_ok-add_missing.ensures.kept c.loop-i.invariant.1,
      λ k l. each-more c.loop-i.order.items c.add_missing.new.order.items c.loop-i.i c.in_ok-add_missing.ensures.kept c.in_ok-add_missing.ensures.there c.loop-i.invariant.2 k (omega (arith, l)),
    )
