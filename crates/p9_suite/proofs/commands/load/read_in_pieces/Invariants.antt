use Rattle.std.proofs.Common.{length}
use Rattle.p9_suite.proofs.Modules.{IsFed}
use Rattle.p9_suite.proofs.commands.load.read_in_pieces.Given as goal

abbrev pub invariant-loop-rest : goal.invariant-loop-rest
invariant-loop-rest l = IsFed l.bytes l.reader.given l.rest l.reader.fault

abbrev pub decreases-loop-rest : goal.decreases-loop-rest
decreases-loop-rest l = length l.rest
