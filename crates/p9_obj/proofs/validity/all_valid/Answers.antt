use Rattle.std.proofs.Common.{◌↔◌, List, All, refl, sym, subst}
use Rattle.p9_abs.specs.declared.modules.AModule.{AModule}
use Rattle.p9_abs.specs.Validity.{IsValid}
use Rattle.p9_obj.proofs.Whole.{all_turn, all_end}
use Rattle.p9_obj.proofs.validity.all_valid.Goals as goal

pub loop-rest-init : goal.loop-rest-init
loop-rest-init c =
    let P : List AModule → Type 0 = λ v. All IsValid v ↔ All IsValid c.args.modules.now.items in
    subst P (sym c.as_slice-rest.ensures.value) (λ h. h, λ h. h)

pub loop-rest-preserved : goal.loop-rest-preserved
loop-rest-preserved c =
    all_turn IsValid c.args.modules.now.items c.loop-rest.rest.now _ c.first-item.result c.in-len1-up.len_at_least c.first-item.is refl (c.in_ok-valid.ensures.0 c.if-not-branch.false) c.loop-rest.invariant

pub returns : goal.returns
returns c = all_end IsValid c.args.modules.now.items c.loop-rest.rest.now c.in_default.len_below c.loop-rest.invariant
