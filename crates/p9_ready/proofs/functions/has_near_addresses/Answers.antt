use Rattle.std.proofs.Common.{◌↔◌, IsTrue, All, ℕ, List, ap, ◌∙◌, subst}
use Rattle.p9_abs.specs.declared.instructions.Abs.{Abs}
use Rattle.p9_abs.specs.declared.instructions.AFunction.{AFunction}
use Rattle.p9_keeps.specs.Addresses.{IsNear}
use Rattle.p9_ready.proofs.functions.has_near_addresses.Goals as goal

pub returns : goal.returns
returns c =
    let sizes = c.deref.ensures.value ∙ ap (λ (z : AFunction). z.autos) c.f.view_is in
    let code = c.deref-2.ensures.value ∙ ap (λ (z : AFunction). z.code) c.f.view_is in
    subst (λ (p : List ℕ). IsTrue c.are_all_near.result ↔ All (λ (a : Abs). All (IsNear p) a.operands) c.args.f.now.code) sizes
    (subst (λ (q : List Abs). IsTrue c.are_all_near.result ↔ All (λ (a : Abs). All (IsNear c.deref.result.now) a.operands) q) code c.are_all_near.ensures)
