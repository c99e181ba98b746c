use Rattle.std.proofs.Common.{◌≡◌, find, length}
use Rattle.p9_names.specs.Passes.{ArePlaces, defines}
use Rattle.p9_names.proofs.conflicts.first_definition.Given as goal

abbrev pub invariant-loop-rest : goal.invariant-loop-rest
invariant-loop-rest l = ArePlaces l.linked l.rest × (find (defines l.linked l.name) l.rest ≡ find (defines l.linked l.name) l.places)

abbrev pub decreases-loop-rest : goal.decreases-loop-rest
decreases-loop-rest l = length l.rest
