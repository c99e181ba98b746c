use Rattle.std.proofs.Common.{All}
use Rattle.std.specs.Option.{IfSome}
use Rattle.p9_abs.specs.Regions.{IsHome}
use Rattle.p9_region.specs.Costs.{gaps_of, order_of}
use Rattle.p9_region.specs.Greedy.{IsGreedy}
use Rattle.p9_region.proofs.homes.choose_all.Given as goal

abbrev pub invariant-loop-rank : goal.invariant-loop-rank
invariant-loop-rank l = All (λ home. IfSome home IsHome) l.homes × IsGreedy l.regions (gaps_of l.ranking) (order_of l.ranking) l.homes l.used l.rank-index
