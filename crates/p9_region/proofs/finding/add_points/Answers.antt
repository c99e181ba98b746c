use Rattle.std.proofs.Common.{◌<◌, ap, sym, subst, arith, length, All, AllPairs}
use Rattle.p9_region.specs.Picking.{point_bit}
use Rattle.p9_region.proofs.Picks.{picked-below, picked-rising, picked-length}
use Rattle.p9_region.proofs.Targets.{edges-within}
use Rattle.p9_region.proofs.Gathering.{adds-regions}
use Rattle.p9_region.proofs.finding.add_points.Goals as goal

pub edges-requires-clause-points : goal.edges-requires-clause-points
edges-requires-clause-points c =
    let n = picked-length (point_bit c.args.steps.now c.args.bits.now c.args.width c.args.v) (length c.args.steps.now) in
    let e = ap length c.requires.points in
    let f = c.requires.few in
    omega (arith, n, e, f)

pub edges-requires-clause-rising : goal.edges-requires-clause-rising
edges-requires-clause-rising c =
    subst (AllPairs (λ i j. i < j)) (sym c.requires.points) (picked-rising (point_bit c.args.steps.now c.args.bits.now c.args.width c.args.v) (length c.args.steps.now))

pub edges-requires-clause-within : goal.edges-requires-clause-within
edges-requires-clause-within c =
    subst (All (λ i. i < length c.args.steps.now)) (sym c.requires.points) (picked-below (point_bit c.args.steps.now c.args.bits.now c.args.width c.args.v) (length c.args.steps.now))

pub labels_of-requires : goal.labels_of-requires
labels_of-requires c =
    edges-within c.args.steps.now c.args.bits.now c.args.width c.args.v c.args.points.now (length c.args.points.now) c.in_ok-edges.edges.items c.deref.result.now c.deref.ensures.value c.in_ok-edges.ensures

pub returns : goal.returns
returns c =
    adds-regions c.args.steps.now c.args.bits.now c.args.width c.args.v c.args.points.now c.in_ok-edges.edges.items c.deref.result.now c.in_ok-labels.labels.items c.deref-2.result.now c.args.regions.now.items _
    c.requires.points c.deref.ensures.value c.in_ok-edges.ensures c.in_ok-labels.ensures c.deref-2.ensures.value c.in_ok-add_groups.ensures

pub overflow_cast-points : goal.overflow_cast-points
overflow_cast-points c =
    let n = picked-length (point_bit c.args.steps.now c.args.bits.now c.args.width c.args.v) (length c.args.steps.now) in
    let e = ap length c.requires.points in
    let f = c.requires.few in
    omega (arith, n, e, f)

pub add_groups-requires-clause-few : goal.add_groups-requires-clause-few
add_groups-requires-clause-few c =
    let n = picked-length (point_bit c.args.steps.now c.args.bits.now c.args.width c.args.v) (length c.args.steps.now) in
    let e = ap length c.requires.points in
    let f = c.requires.few in
    omega (arith, n, e, f)
