use Rattle.std.proofs.Common.{◌≡◌, ◌≤◌, ◌+◌, ◌++◌, length, sum_by}
use Rattle.p9_place.specs.Objects.{laid}
use Rattle.p9_place.proofs.placing.lay.Given as goal

abbrev pub invariant-loop-rest : goal.invariant-loop-rest
invariant-loop-rest l = record {
  room : l.offset + sum_by (λ o. o.space) l.rest ≤ 16777216;
  placed : l.spots.items ++ laid l.offset l.rest ≡ laid l.from l.objects;
}

abbrev pub decreases-loop-rest : goal.decreases-loop-rest
decreases-loop-rest l = length l.rest
