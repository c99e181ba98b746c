use Rattle.std.proofs.Common.{◌∙◌, sym, ap, arith, Some}
use Rattle.std.proofs.lemmas.Option.{slice_get-get_or}
use Rattle.p9_flow.specs.Acts.{without}
use Rattle.p9_flow.proofs.Barring.{fit-first, fit-next}
use Rattle.p9_flow.proofs.candidates.candidates_of.Goals as goal

pub loop-a-init : goal.loop-a-init
loop-a-init c = fit-first c.args.autos.now c.args.code.now c.in_ok-candidates.candidates.items c.in_ok-candidates.ensures

pub loop-a-preserved : goal.loop-a-preserved
loop-a-preserved c =
    fit-next c.args.autos.now c.args.code.now c.loop-a.a-index c.loop-a.candidates.items _ c.a-item.result
    (slice_get-get_or c.args.code.now c.loop-a.a-index c.a-item.result (omega arith) ∙ ap (λ a. Some a) (sym c.a-item.is))
    (c.bar.ensures ∙ ap (λ o. without c.loop-a.candidates.items o) c.barred_at.ensures) c.loop-a.invariant
