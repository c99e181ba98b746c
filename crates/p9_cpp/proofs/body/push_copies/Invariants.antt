use Rattle.std.proofs.Common.{◌≡◌, ◌++◌, length}
use Rattle.p9_cpp.specs.Macros.{all_at_line}
use Rattle.p9_cpp.proofs.body.push_copies.Given as goal

abbrev pub invariant-loop-rest : goal.invariant-loop-rest
invariant-loop-rest l = l.out ++ all_at_line l.line l.rest ≡ l.initial.out ++ all_at_line l.line l.tokens

abbrev pub decreases-loop-rest : goal.decreases-loop-rest
decreases-loop-rest l = length l.rest
