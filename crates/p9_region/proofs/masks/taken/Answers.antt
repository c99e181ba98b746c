use Rattle.std.proofs.Common.{arith}
use Rattle.p9_region.proofs.Masking.{union-more}
use Rattle.p9_region.proofs.masks.taken.Goals as goal

pub loop-i-preserved : goal.loop-i-preserved
loop-i-preserved c = union-more c.args.points.now c.args.used.now c.loop-i.i-index c.loop-i.mask (omega arith) c.loop-i.invariant
