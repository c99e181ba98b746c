use Rattle.std.proofs.Common.{◌∙◌, ap}
use Rattle.p9_abs.specs.declared.instructions.AFunction.{AFunction}
use Rattle.p9_flow.proofs.Barring.{fit-all}
use Rattle.p9_flow.proofs.candidates.register_candidates.Goals as goal

pub returns : goal.returns
returns c =
    fit-all c.args.f.now c.deref.result.now c.deref-2.result.now c.in_ok-candidates.candidates.items
    (c.deref.ensures.value ∙ ap (λ (z : AFunction). z.autos) c.f.view_is) (c.deref-2.ensures.value ∙ ap (λ (z : AFunction). z.code) c.f.view_is) c.in_ok-candidates.ensures
