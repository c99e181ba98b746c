use Rattle.std.proofs.Common.{◌↔◌, length}
use Rattle.p9_abs.specs.Validity.{NoRawNeighbours}
use Rattle.p9_obj.proofs.data.are_parted.Given as goal

abbrev pub invariant-loop-rest : goal.invariant-loop-rest
invariant-loop-rest l = NoRawNeighbours l.rest ↔ NoRawNeighbours l.pieces

abbrev pub decreases-loop-rest : goal.decreases-loop-rest
decreases-loop-rest l = length l.rest
