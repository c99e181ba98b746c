use Rattle.p9_flow.proofs.Tabling.{rows-first, rows-more}
use Rattle.p9_flow.proofs.rows.rows_of.Goals as goal

pub loop-i-init : goal.loop-i-init
loop-i-init c = rows-first c.args.columns.now c.new-bits.result.items c.new-bits.ensures.items

pub loop-i-preserved : goal.loop-i-preserved
loop-i-preserved c = rows-more c.args.columns.now c.loop-i.bits.items c.push_row.new.bits.items c.loop-i.i c.loop-i.invariant c.in_ok-push_row.ensures
