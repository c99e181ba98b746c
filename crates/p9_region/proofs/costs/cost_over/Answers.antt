use Rattle.std.proofs.Common.{◌<◌, ◌^◌, arith, slice_index}
use Rattle.p9_region.proofs.Costing.{total-fits}
use Rattle.p9_region.proofs.costs.cost_over.Goals as goal

pub overflow_add-total : goal.overflow_add-total
overflow_add-total c =
    let small : slice_index c.args.points.now c.loop-i.i-index < 2 ^ 32 = (let t = c.type_inv.points c.loop-i.i-index in omega (arith, t)) in
    let h = total-fits c.args.points.now c.loop-i.i-index c.loop-i.total c.cost_in-total.result c.requires (omega arith) small c.loop-i.invariant.1 c.cost_in-total.ensures.bound in omega (arith, h)
