use Rattle.std.proofs.Common.{sym, ap, ◌∙◌, arith, refl, Some}
use Rattle.std.proofs.lemmas.Option.{slice_get-get_or}
use Rattle.p9_region.proofs.Ranking.{ranks-none, ranks-more, rank-here}
use Rattle.p9_region.proofs.ranks.unsorted.Goals as goal

pub loop-number-init : goal.loop-number-init
loop-number-init c = ranks-none c.args.f.now c.args.regions.now _ c.new-ranks.ensures.items

pub loop-number-preserved : goal.loop-number-preserved
loop-number-preserved c =
    ranks-more c.args.f.now c.args.regions.now c.loop-number.number _ c.loop-number.ranks.items c.push.new.self.items c.in_ok-push.ensures.items
    (rank-here c.args.f.now c.args.regions.now c.loop-number.number _ c.cost-saved.result c.index-regions-number.result
    (slice_get-get_or c.args.regions.now c.loop-number.number c.index-regions-number.result (omega arith) ∙ ap (λ r. Some r) (sym c.index-regions-number.is))
    c.cost-saved.ensures (let t = c.cost-saved.type_inv in omega (arith, t)) refl) c.loop-number.invariant
