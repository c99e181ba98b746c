use Rattle.std.proofs.Common.{◌≡◌, ◌++◌, length}
use Rattle.p9_slot.specs.Placing.{nothing, numbers}
use Rattle.p9_slot.proofs.placing.numbers.Given as goal

abbrev pub invariant-loop-rest : goal.invariant-loop-rest
invariant-loop-rest l = numbers nothing 0 l.blocks ≡ l.moved.items ++ numbers l.recent l.next l.rest

abbrev pub decreases-loop-rest : goal.decreases-loop-rest
decreases-loop-rest l = length l.rest
