use Rattle.std.proofs.Common.{arith, refl, slice_index}
use Rattle.p9_frame.proofs.Offsets.{end-step}
use Rattle.p9_frame.proofs.sizes.sum_fits.Goals as goal

pub loop-size-preserved : goal.loop-size-preserved
loop-size-preserved c =
    let size = slice_index c.args.sizes.now c.loop-size.size-index in
    record {
      end = end-step c.args.sizes.now size c.loop-size.size-index c.loop-size.total c.rounded-total.result (omega arith) refl c.rounded-total.ensures _ c.loop-size.invariant.end;
      bound = omega arith;
    }
