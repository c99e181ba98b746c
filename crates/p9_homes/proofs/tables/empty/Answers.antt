use Rattle.p9_homes.proofs.Tabling.{replicate-more}
use Rattle.p9_homes.proofs.tables.empty.Goals as goal

pub loop-i-preserved : goal.loop-i-preserved
loop-i-preserved c = replicate-more c.loop-i.i c.loop-i.cells.items _ c.loop-i.invariant c.in_ok-push.ensures.items
