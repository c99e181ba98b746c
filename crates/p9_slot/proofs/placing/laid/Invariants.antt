use Rattle.std.proofs.Common.{◌≡◌, ◌++◌, length}
use Rattle.p9_slot.specs.Placing.{nothing, laid, entry, lines_of, TargetsBelow}
use Rattle.p9_slot.proofs.placing.laid.Given as goal

abbrev pub invariant-loop-rest : goal.invariant-loop-rest
invariant-loop-rest l =
    TargetsBelow (length l.moved) (lines_of l.rest)
    × (laid (entry l.moved) nothing l.blocks ≡ l.new.items ++ laid (entry l.moved) l.recent l.rest)

abbrev pub decreases-loop-rest : goal.decreases-loop-rest
decreases-loop-rest l = length l.rest
