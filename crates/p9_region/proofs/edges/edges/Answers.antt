use Rattle.std.proofs.Common.{arith, subst, ◌<◌, length, slice_index}
use Rattle.std.proofs.lemmas.Option.{slice_get-get_or}
use Rattle.p9_region.specs.Finding.{IsTarget}
use Rattle.p9_region.proofs.Targets.{edges-more}
use Rattle.p9_region.proofs.edges.edges.Goals as goal

pub loop-k-preserved : goal.loop-k-preserved
loop-k-preserved c =
    let within : slice_index c.args.points.now c.loop-k.k < length c.args.steps.now = c.requires.within c.loop-k.k 0 (omega arith) in
    edges-more c.args.steps.now c.args.bits.now c.args.width c.args.v c.args.points.now c.loop-k.k _ c.loop-k.edges.items c.add.new.edges.items c.add-in-loop-k.new.edges.items c.target-next.result c.target-jump.result
    (omega arith) (slice_get-get_or c.args.steps.now (slice_index c.args.points.now c.loop-k.k) _ within)
    (subst (λ z. IsTarget c.args.points.now c.args.bits.now c.args.width c.args.v z c.target-next.result) c.successor.ensures c.target-next.ensures) c.target-jump.ensures
    c.in_ok-add.ensures c.in_ok-add-2.ensures c.loop-k.invariant
