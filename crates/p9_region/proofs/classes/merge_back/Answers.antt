use Rattle.std.proofs.Common.{◌-◌, arith, sym, subst, length}
use Rattle.std.proofs.lemmas.Option.{slice_get-get_or}
use Rattle.p9_region.specs.Labels.{AreWithinNumber}
use Rattle.p9_region.proofs.Merging.{from-within, to-within, back-step, either}
use Rattle.p9_region.proofs.classes.merge_back.Goals as goal

pub join-requires-clause-from : goal.join-requires-clause-from
join-requires-clause-from c = from-within c.args.edges.now (length c.args.labels.now) _ (c.loop-i.i - 1) _ c.requires.within (omega arith) (sym c.loop-i.auto.labels)

pub join-requires-clause-to : goal.join-requires-clause-to
join-requires-clause-to c = to-within c.args.edges.now (length c.args.labels.now) _ (c.loop-i.i - 1) _ c.requires.within (omega arith) (sym c.loop-i.auto.labels)

pub loop-i-preserved : goal.loop-i-preserved
loop-i-preserved c =
    let w =
    back-step c.args.edges.now c.loop-i.labels c.join.new.labels (c.loop-i.i - 1) _ (subst (AreWithinNumber c.args.edges.now) (sym c.loop-i.auto.labels) c.requires.within)
    (slice_get-get_or c.args.edges.now (c.loop-i.i - 1) _ (omega arith)) (either c.join.result c.join.ensures.same c.join.ensures.less) c.loop-i.invariant.1 in
    (omega arith, w.1, omega (arith, w.2))
