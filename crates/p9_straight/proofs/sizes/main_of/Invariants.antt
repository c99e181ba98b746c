use Rattle.std.proofs.Common.{◌≡◌, length}
use Rattle.p9_straight.specs.Code.{main_of}
use Rattle.p9_straight.proofs.sizes.main_of.Given as goal

abbrev pub invariant-loop-rest : goal.invariant-loop-rest
invariant-loop-rest l = main_of l.rest ≡ main_of l.files

abbrev pub decreases-loop-rest : goal.decreases-loop-rest
decreases-loop-rest l = length l.rest
