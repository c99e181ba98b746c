use Rattle.std.proofs.Common.{◌≡◌, ◌+◌, length}
use Rattle.p9_straight.specs.Building.{statements_count}
use Rattle.p9_straight.proofs.sizes.code_size.Given as goal

abbrev pub invariant-loop-rest : goal.invariant-loop-rest
invariant-loop-rest l = l.count + statements_count l.rest ≡ 6 + statements_count l.statements

abbrev pub decreases-loop-rest : goal.decreases-loop-rest
decreases-loop-rest l = length l.rest
