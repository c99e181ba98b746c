use Rattle.std.proofs.Common.{length}
use Rattle.p9_slot.specs.Aimed.{AreAimed}
use Rattle.machine_tests.proofs.slot.are_aimed.Given as goal

abbrev pub invariant-loop-rest : goal.invariant-loop-rest
invariant-loop-rest l = AreAimed (length l.lines) l.rest → AreAimed (length l.lines) l.lines

abbrev pub decreases-loop-rest : goal.decreases-loop-rest
decreases-loop-rest l = length l.rest
