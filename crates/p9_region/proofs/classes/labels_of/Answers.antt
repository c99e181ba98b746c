use Rattle.std.proofs.Common.{arith, refl}
use Rattle.p9_region.proofs.Merging.{own-labels, are-classes}
use Rattle.p9_region.proofs.Stepping.{taken-back}
use Rattle.p9_region.proofs.classes.labels_of.Goals as goal

pub loop-labels-init : goal.loop-labels-init
loop-labels-init c = (c.in_ok-labels.ensures.0, own-labels c.args.edges.now c.args.n c.in_ok-labels.labels.items c.in_ok-labels.ensures.0 c.in_ok-labels.ensures.1)

pub returns : goal.returns
returns c =
    are-classes c.args.edges.now c.args.n c.merge.new.labels _
    (taken-back c.merge.new.labels c.loop-labels.labels.items c.loop-labels.labels.len (omega (arith, c.loop-labels.invariant.0, c.loop-labels.labels.ok.0)))
    (omega (arith, c.loop-labels.invariant.0, c.loop-labels.labels.ok.0)) c.loop-labels-test.ensures.labels (c.loop-labels-test.ensures.equal refl)
