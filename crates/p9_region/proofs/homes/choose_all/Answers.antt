use Rattle.std.proofs.Common.{◌<◌, All, length, sym, ◌∙◌, subst, arith, get_or}
use Rattle.std.proofs.lemmas.Bool.Decides.{nat_tests}
use Rattle.p9_region.proofs.Choosing.{range-next}
use Rattle.p9_region.proofs.Stepping.{points-here, points-within, number-within, chosen-next}
use Rattle.p9_region.proofs.homes.choose_all.Goals as goal

pub bounds-regions-number : goal.bounds-regions-number
bounds-regions-number c = number-within (length c.args.regions.now) c.args.ranking.now c.loop-rank.rank-index _ c.requires.order (omega arith)

pub bounds-homes-number : goal.bounds-homes-number
bounds-homes-number c =
    let h = number-within (length c.args.regions.now) c.args.ranking.now c.loop-rank.rank-index (0, 0) c.requires.order (omega arith) in
    omega (arith, h)

pub choose-requires : goal.choose-requires
choose-requires c =
    let l = number-within (length c.args.regions.now) c.args.ranking.now c.loop-rank.rank-index (0, 0) c.requires.order (omega arith) in
    let e = points-here c.args.regions.now (get_or c.args.ranking.now c.loop-rank.rank-index (0, 0)).1 c.index-regions-number.result c.deref.result.now l c.index-regions-number.is (c.deref.ensures.value ∙ c.points.view_is) in
    subst (λ n. All (λ i. i < n) c.deref.result.now) (sym c.loop-rank.auto.used) (points-within c.args.regions.now _ (length c.args.used.now) c.deref.result.now e c.requires.points)

pub loop-rank-preserved : goal.loop-rank-preserved
loop-rank-preserved c =
    let l = number-within (length c.args.regions.now) c.args.ranking.now c.loop-rank.rank-index (0, 0) c.requires.order (omega arith) in
    let e = points-here c.args.regions.now (get_or c.args.ranking.now c.loop-rank.rank-index (0, 0)).1 c.index-regions-number.result c.deref.result.now l c.index-regions-number.is (c.deref.ensures.value ∙ c.points.view_is) in (
      range-next c.loop-rank.homes _ c.choose.result _ c.deref.result.now c.loop-rank.used c.choose.new.used c.loop-rank.invariant.0 c.choose.ensures,
      chosen-next c.args.regions.now c.args.ranking.now c.loop-rank.homes c.loop-rank.used c.choose.new.used c.deref.result.now c.loop-rank.rank-index c.choose.result (0, 0) _ c.requires.order
          (let h = c.requires.count in let g = c.loop-rank.auto.homes in omega (arith, h, g)) (omega arith) e (λ w. grind (arith, nat_tests, w)) c.loop-rank.invariant.1 c.choose.ensures,
    )
