use Rattle.std.proofs.Common.{◌↔◌, ◌+◌, ◌≤◌, length}
use Rattle.p9_abs.specs.Modules.{pieces_size}
use Rattle.p9_abs.specs.Validity.{AddressesAligned}
use Rattle.p9_obj.proofs.data.are_aligned.Given as goal

abbrev pub invariant-loop-rest : goal.invariant-loop-rest
invariant-loop-rest l = record { aligned : AddressesAligned l.place l.rest ↔ AddressesAligned 0 l.pieces; small : l.place + pieces_size l.rest ≤ 16777216 }

abbrev pub decreases-loop-rest : goal.decreases-loop-rest
decreases-loop-rest l = length l.rest
