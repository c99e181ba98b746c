use Rattle.std.proofs.Common.{arith, refl, slice_index}
use Rattle.p9_frame.proofs.Offsets.{offsets-step, end-step}
use Rattle.p9_frame.proofs.sizes.offsets_of.Goals as goal

pub loop-size-preserved : goal.loop-size-preserved
loop-size-preserved c =
    let size = slice_index c.args.sizes.now c.loop-size.size-index in
    record {
      list = offsets-step c.args.sizes.now size c.loop-size.size-index c.loop-size.at c.rounded-at.result (omega arith) refl c.rounded-at.ensures c.loop-size.list.items _ _ c.in_ok-push.ensures.items c.loop-size.invariant.list;
      end = end-step c.args.sizes.now size c.loop-size.size-index c.loop-size.at c.rounded-at.result (omega arith) refl c.rounded-at.ensures _ c.loop-size.invariant.end;
    }
