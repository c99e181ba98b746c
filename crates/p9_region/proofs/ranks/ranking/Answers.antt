use Rattle.p9_region.proofs.Ranking.{is-ranking}
use Rattle.p9_region.proofs.ranks.ranking.Goals as goal

pub returns : goal.returns
returns c =
    is-ranking c.args.f.now c.args.regions.now c.in_ok-ranking.ranking.items c.sort.new.self.items c.in_ok-ranking.ensures c.in_ok-sort.ensures.permutation c.in_ok-sort.ensures.sorted
