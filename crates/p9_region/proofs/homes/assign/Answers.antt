use Rattle.std.proofs.Common.{sym, ap, ◌∙◌, subst, length, All}
use Rattle.p9_abs.specs.declared.instructions.AFunction.{AFunction}
use Rattle.p9_abs.specs.Regions.{IsRegion, AreSettled}
use Rattle.p9_region.proofs.Within.{regions-within}
use Rattle.p9_region.proofs.homes.assign.Goals as goal

pub homes_of-requires : goal.homes_of-requires
homes_of-requires c =
    let each = subst (λ z. All (IsRegion c.args.f.now) z) (sym (c.deref-2.ensures.value ∙ c.regions.view_is)) c.requires.each in
    record { each = each; points = regions-within c.args.f.now c.deref-2.result.now _ (ap length (c.deref.ensures.value ∙ ap (λ (z : AFunction). z.code) c.f.view_is)) each }

pub returns : goal.returns
returns c = subst (λ z. AreSettled c.args.f.now z c.in_ok-list.list.items) (c.deref-2.ensures.value ∙ c.regions.view_is) c.in_ok-list.ensures
