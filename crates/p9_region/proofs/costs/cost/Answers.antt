use Rattle.std.proofs.Common.{ap, ◌∙◌}
use Rattle.p9_abs.specs.declared.instructions.AFunction.{AFunction}
use Rattle.p9_abs.specs.declared.regions.Region.{Region}
use Rattle.p9_region.proofs.Costing.{cost-of-lists}
use Rattle.p9_region.proofs.costs.cost.Goals as goal

pub returns : goal.returns
returns c =
    cost-of-lists c.args.f.now c.args.r.now c.deref.result.now c.deref-2.result.now c.deref-3.result.now _ c.cost_over.result
    (c.deref.ensures.value ∙ ap (λ (z : AFunction). z.code) c.f.view_is) (c.deref-2.ensures.value ∙ ap (λ (z : AFunction). z.depth) c.f.view_is)
    (ap (λ (z : Region). z.auto) c.r.view_is) (c.deref-3.ensures.value ∙ ap (λ (z : Region). z.points) c.r.view_is) c.cost_over.ensures
