use Rattle.std.proofs.Common.{arith, ap, sym, ◌∙◌, None, Some, get_or}
use Rattle.std.proofs.lemmas.Option.{slice_get-get_or}
use Rattle.p9_homes.proofs.Tabling.{table-more}
use Rattle.p9_homes.proofs.tables.mark_all.Goals as goal

pub loop-k-preserved : goal.loop-k-preserved
loop-k-preserved c =
    table-more c.args.regions.now c.args.homes.now c.loop-k.k c.args.count c.index-regions-k.result c.loop-k.cells c.mark_region.new.cells c.requires.homes
    (slice_get-get_or c.args.regions.now c.loop-k.k c.index-regions-k.result c.loop-k-test.true ∙ ap (λ r. Some r) (sym c.index-regions-k.is)) c.loop-k.invariant (get_or c.args.homes.now c.loop-k.k None)
    (slice_get-get_or c.args.homes.now c.loop-k.k None (let h = c.requires.homes.count in omega (arith, h))) c.mark_region.ensures.none c.mark_region.ensures.some
