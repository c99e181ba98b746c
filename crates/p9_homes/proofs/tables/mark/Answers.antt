use Rattle.std.proofs.Common.{arith}
use Rattle.p9_homes.proofs.Tabling.{marked-more}
use Rattle.p9_homes.proofs.tables.mark.Goals as goal

pub loop-i-preserved : goal.loop-i-preserved
loop-i-preserved c =
    marked-more c.args.points.now c.args.v c.args.g c.loop-i.i-index c.args.cells.now c.loop-i.cells c.requires.home (omega arith) (c.requires.within c.loop-i.i-index 0 (omega arith)) c.loop-i.invariant
