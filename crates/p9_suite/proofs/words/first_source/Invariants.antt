use Rattle.std.proofs.Common.{◌≡◌, length}
use Rattle.p9_suite.specs.CommandLine.{first_source}
use Rattle.p9_suite.proofs.words.first_source.Given as goal

abbrev pub invariant-loop-rest : goal.invariant-loop-rest
invariant-loop-rest l = first_source l.rest ≡ first_source l.words

abbrev pub decreases-loop-rest : goal.decreases-loop-rest
decreases-loop-rest l = length l.rest
