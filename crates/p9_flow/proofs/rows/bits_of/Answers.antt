use Rattle.std.proofs.Common.{◌∙◌, ap, subst, sym, refl, length}
use Rattle.p9_flow.specs.Tables.{AreColumns}
use Rattle.p9_flow.proofs.Tabling.{are-rows}
use Rattle.p9_flow.proofs.rows.bits_of.Goals as goal

pub returns : goal.returns
returns c =
    are-rows c.args.acts.now c.deref-2.result.now c.args.width (length c.args.acts.now) c.in_ok-bits.bits.items
    (ap length c.deref-2.ensures.value ∙ c.in_ok-columns.ensures.count) refl
    (subst (AreColumns c.args.acts.now) (sym c.deref-2.ensures.value) c.in_ok-columns.ensures.columns) c.in_ok-bits.ensures
