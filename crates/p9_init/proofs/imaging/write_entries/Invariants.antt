use Rattle.std.proofs.Common.{length}
use Rattle.p9_init.proofs.Entering.{Ahead}
use Rattle.p9_init.proofs.imaging.write_entries.Given as goal

abbrev pub invariant-loop-rest : goal.invariant-loop-rest
invariant-loop-rest l = Ahead l.entries l.initial.cells l.rest l.cells

abbrev pub decreases-loop-rest : goal.decreases-loop-rest
decreases-loop-rest l = length l.rest
