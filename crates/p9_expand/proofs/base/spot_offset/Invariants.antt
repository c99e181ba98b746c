use Rattle.std.proofs.Common.{◌≡◌, length}
use Rattle.p9_expand.specs.Base.{spot_offset}
use Rattle.p9_expand.proofs.base.spot_offset.Given as goal

abbrev pub invariant-loop-rest : goal.invariant-loop-rest
invariant-loop-rest l = spot_offset l.rest l.def ≡ spot_offset l.spots l.def

abbrev pub decreases-loop-rest : goal.decreases-loop-rest
decreases-loop-rest l = length l.rest
