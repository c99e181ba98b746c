use Rattle.std.proofs.Common.{◌≡◌, ◌+◌, length}
use Rattle.p9_abs.specs.Modules.{pieces_size}
use Rattle.p9_place.proofs.sizes.pieces_size.Given as goal

abbrev pub invariant-loop-rest : goal.invariant-loop-rest
invariant-loop-rest l = l.size + pieces_size l.rest ≡ pieces_size l.pieces

abbrev pub decreases-loop-rest : goal.decreases-loop-rest
decreases-loop-rest l = length l.rest
