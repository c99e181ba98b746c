use Rattle.p9_region.specs.Costs.{AreRanks}
use Rattle.p9_region.proofs.ranks.unsorted.Given as goal

abbrev pub invariant-loop-number : goal.invariant-loop-number
invariant-loop-number l = AreRanks l.f l.regions l.number l.ranks.items
