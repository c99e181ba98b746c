use Rattle.std.proofs.Common.{sym, ap, ◌∙◌, subst, arith, None, length}
use Rattle.std.proofs.lemmas.List.{length-replicate, length-map}
use Rattle.p9_abs.specs.Regions.{AreSettled}
use Rattle.p9_region.specs.Costs.{IsRanking, order_of}
use Rattle.p9_region.specs.Greedy.{AreWithin, AreOrdered}
use Rattle.p9_region.proofs.Stepping.{ranking-settles, ranking-ordered, greedy-start, range-start, taken-back}
use Rattle.p9_region.proofs.homes.homes_of.Goals as goal

pub choose_all-requires : goal.choose_all-requires
choose_all-requires c =
    let used = c.deref_mut.ensures.value ∙ c.in_ok-used.ensures.items_if_clones_equal (λ y e. e) in
    let homes = c.deref_mut-2.ensures.value ∙ c.in_ok-homes.ensures in
    record {
      count = ap length homes ∙ length-map c.args.regions.now (λ r. None);
      points = subst (λ n. AreWithin n c.args.regions.now) (sym (ap length used ∙ length-replicate (length c.args.code.now) 0)) c.requires.points;
      order = subst (λ z. AreOrdered (length c.args.regions.now) (order_of z)) (sym c.deref.ensures.value) (ranking-ordered c.args.f.now c.args.regions.now c.in_ok-ranking.ranking.items c.in_ok-ranking.ensures);
      range = range-start c.args.regions.now c.deref_mut-2.result.now homes;
      first = greedy-start c.args.regions.now _ _ c.deref_mut.result.now c.deref_mut-2.result.now _ used;
    }

pub returns : goal.returns
returns c =
    let homes = c.deref_mut-2.ensures.value ∙ c.in_ok-homes.ensures in
    let count = ap length homes ∙ length-map c.args.regions.now (λ r. None) in
    let kept = c.choose_all.auto.homes in
    subst (AreSettled c.args.f.now c.args.regions.now)
    (sym (taken-back c.choose_all.new.homes c.in_ok-homes.homes.items c.in_ok-homes.homes.len (let v = ap length c.deref_mut-2.ensures.value in let k = c.in_ok-homes.homes.ok.0 in omega (arith, v, k, kept))))
    (ranking-settles c.args.f.now c.args.regions.now c.deref.result.now c.choose_all.new.homes c.choose_all.new.used
    (subst (IsRanking c.args.f.now c.args.regions.now) (sym c.deref.ensures.value) c.in_ok-ranking.ensures) (omega (arith, kept, count)) c.choose_all.ensures.range c.choose_all.ensures.last)
