use Rattle.std.proofs.Common.{◌∙◌, ap, length, arith}
use Rattle.std.specs.List.{filter}
use Rattle.std.proofs.lemmas.List.{take_all}
use Rattle.p9_region.specs.Picking.{point_bit}
use Rattle.p9_region.proofs.Columns.{points-filtered}
use Rattle.p9_region.proofs.points.points.Goals as goal

pub returns : goal.returns
returns c =
    let test = point_bit c.args.steps.now c.args.bits.now c.args.width c.args.v in
    c.loop-i.invariant
    ∙ (ap (filter test) (take_all c.loop-i.i-index c.args.column.now (omega arith) ∙ c.requires)
    ∙ points-filtered c.args.steps.now c.args.bits.now c.args.width c.args.v (length c.args.steps.now))
