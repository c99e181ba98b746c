use Rattle.std.proofs.Common.{arith, sym}
use Rattle.std.proofs.lemmas.Option.{slice_get-get_or}
use Rattle.p9_region.proofs.Merging.{merging-first, merging-same, merging-less, from-within, to-within}
use Rattle.p9_region.proofs.classes.merge.Goals as goal

pub loop-i-init : goal.loop-i-init
loop-i-init c = (omega arith, merging-first c.args.edges.now c.args.labels.now c.requires.labels)

pub join-requires-clause-from : goal.join-requires-clause-from
join-requires-clause-from c = from-within c.args.edges.now _ _ c.loop-i.i _ c.requires.within (omega arith) (sym c.loop-i.invariant.1.same)

pub join-requires-clause-to : goal.join-requires-clause-to
join-requires-clause-to c = to-within c.args.edges.now _ _ c.loop-i.i _ c.requires.within (omega arith) (sym c.loop-i.invariant.1.same)

pub loop-i-preserved-then-join : goal.loop-i-preserved-then-join
loop-i-preserved-then-join c =
    (omega arith, merging-less c.args.edges.now c.args.labels.now c.loop-i.labels c.join.new.labels c.loop-i.i c.loop-i.changed _ c.requires.within c.loop-i.invariant.1 (slice_get-get_or c.args.edges.now c.loop-i.i _ (omega arith)) (c.join.ensures.less c.if-join.true))

pub loop-i-preserved : goal.loop-i-preserved
loop-i-preserved c =
    (omega arith, merging-same c.args.edges.now c.args.labels.now c.loop-i.labels c.join.new.labels c.loop-i.i c.loop-i.changed _ c.loop-i.invariant.1 (slice_get-get_or c.args.edges.now c.loop-i.i _ (omega arith)) (c.join.ensures.same c.if-join.false))
