use Rattle.std.proofs.Common.{◌≡◌, ◌+◌, length}
use Rattle.p9_cpp.specs.Units.{place_from}
use Rattle.p9_cpp.proofs.unit.place_in.Given as goal

abbrev pub invariant-loop-rest : goal.invariant-loop-rest
invariant-loop-rest l = record {
  value : place_from l.at l.name l.rest ≡ place_from 0 l.name l.names;
  small : l.at + length l.rest ≡ length l.names;
}

abbrev pub decreases-loop-rest : goal.decreases-loop-rest
decreases-loop-rest l = length l.rest
