use Rattle.std.proofs.Common.{arith}
use Rattle.std.proofs.lemmas.Grind.{common_steps}
use Rattle.p9_init.proofs.Entering.{ahead_step}
use Rattle.p9_init.proofs.imaging.write_entries.Goals as goal

pub loop-rest-preserved : goal.loop-rest-preserved
loop-rest-preserved c =
    ahead_step c.args.entries.now c.args.cells.now c.entry-item.result c.loop-rest.rest.now _ c.loop-rest.cells c.write_entry.new.cells (grind (arith, common_steps)) c.loop-rest.invariant
    c.in_ok-write_entry.ensures.written
