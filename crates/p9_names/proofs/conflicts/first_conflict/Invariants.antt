use Rattle.std.proofs.Common.{◌≡◌, find, length}
use Rattle.p9_names.specs.Passes.{ArePlaces, meets}
use Rattle.p9_names.proofs.conflicts.first_conflict.Given as goal

abbrev pub invariant-loop-rest : goal.invariant-loop-rest
invariant-loop-rest l = ArePlaces l.linked l.rest × (find (meets l.rule l.linked l.late) l.rest ≡ find (meets l.rule l.linked l.late) l.seen)

abbrev pub decreases-loop-rest : goal.decreases-loop-rest
decreases-loop-rest l = length l.rest
