use Rattle.std.proofs.Common.{◌≡◌, Some, length}
use Rattle.p9_suite.specs.CommandLine.{with_digits}
use Rattle.p9_suite.proofs.number.number.Given as goal

abbrev pub invariant-loop-rest : goal.invariant-loop-rest
invariant-loop-rest l = with_digits (Some l.value) l.rest ≡ with_digits (Some 0) l.word

abbrev pub decreases-loop-rest : goal.decreases-loop-rest
decreases-loop-rest l = length l.rest
