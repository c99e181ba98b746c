use Rattle.std.proofs.Common.{◌≡◌, length}
use Rattle.p9_base.specs.Memory.{held_by}
use Rattle.p9_base.proofs.memory.store.find.Given as goal

abbrev pub invariant-loop-rest : goal.invariant-loop-rest
invariant-loop-rest l = held_by l.rest l.name ≡ held_by l.files l.name

abbrev pub decreases-loop-rest : goal.decreases-loop-rest
decreases-loop-rest l = length l.rest
