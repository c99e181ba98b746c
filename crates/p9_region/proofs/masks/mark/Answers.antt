use Rattle.std.proofs.Common.{arith}
use Rattle.p9_region.proofs.Masking.{marked-more}
use Rattle.p9_region.proofs.masks.mark.Goals as goal

pub loop-i-preserved : goal.loop-i-preserved
loop-i-preserved c =
    marked-more c.args.points.now c.args.used.now c.loop-i.used c.loop-i.i-index c.args.g (let h = c.requires.home in omega (arith, h)) (omega arith) (c.requires.within c.loop-i.i-index 0 (omega arith)) c.loop-i.invariant
