use Rattle.std.proofs.Common.{◌∙◌, ap, refl}
use Rattle.p9_abs.specs.declared.instructions.AFunction.{AFunction}
use Rattle.p9_flow.proofs.Tabling.{live-rows}
use Rattle.p9_flow.proofs.rows.live.Goals as goal

pub returns : goal.returns
returns c =
    live-rows c.args.f.now c.deref-2.result.now c.deref.result.now c.in_ok-candidates.candidates.items c.deref-3.result.now c.in_ok-acts.acts.items c.deref-4.result.now c.in_ok-width.width _
    (c.deref-2.ensures.value ∙ ap (λ (z : AFunction). z.code) c.f.view_is) (c.deref.ensures.value ∙ ap (λ (z : AFunction). z.autos) c.f.view_is)
    c.in_ok-width.ensures c.in_ok-candidates.ensures c.deref-3.ensures.value c.in_ok-acts.ensures c.deref-4.ensures.value c.in_ok-bits.ensures refl
