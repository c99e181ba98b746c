use Rattle.std.proofs.Common.{◌≡◌, find, length}
use Rattle.p9_names.specs.Passes.{ArePlaces, is_missing}
use Rattle.p9_names.proofs.uses.first_missing.Given as goal

abbrev pub invariant-loop-rest : goal.invariant-loop-rest
invariant-loop-rest l = ArePlaces l.linked l.rest × (find (is_missing l.linked l.defs.entries) l.rest ≡ find (is_missing l.linked l.defs.entries) l.uses)

abbrev pub decreases-loop-rest : goal.decreases-loop-rest
decreases-loop-rest l = length l.rest
