use Rattle.std.proofs.Common.{◌≡◌, ◌+◌, ◌≤◌, length}
use Rattle.p9_abs.specs.Modules.{pieces_size}
use Rattle.p9_obj.proofs.data.is_size.Given as goal

abbrev pub invariant-loop-rest : goal.invariant-loop-rest
invariant-loop-rest l = record { limit : l.left ≤ 16777216; rest : l.left + pieces_size l.pieces ≡ 16777216 + pieces_size l.rest }

abbrev pub decreases-loop-rest : goal.decreases-loop-rest
decreases-loop-rest l = length l.rest
