use Rattle.std.proofs.Common.{◌≡◌, ◌++◌, length}
use Rattle.p9_straight.specs.Building.{emitted, AreFitting}
use Rattle.p9_straight.proofs.code.push_all.Given as goal

abbrev pub invariant-loop-rest : goal.invariant-loop-rest
invariant-loop-rest l = AreFitting l.rest × (l.out.items ++ emitted l.rest ≡ l.initial.out.items ++ emitted l.code)

abbrev pub decreases-loop-rest : goal.decreases-loop-rest
decreases-loop-rest l = length l.rest
