use Rattle.std.proofs.Common.{◌≡◌, ◌+◌, ◌<◌, Bool, length, refl, sym, subst, arith, slice_index}
use Rattle.std.proofs.lemmas.Option.{slice_get-get_or}
use Rattle.p9_flow.specs.Columns.{IsVisited}
use Rattle.p9_flow.proofs.Passing.{visited-same, visited-more, visited-closed}
use Rattle.p9_flow.proofs.columns.pass.Goals as goal
use Rattle.p9_flow.proofs.columns.pass.Goals.{then-visit, else-visit}

pub loop-place-preserved : goal.loop-place-preserved
loop-place-preserved c =
    let within : slice_index c.args.order.now c.loop-place.place-index < length c.args.acts.now = c.requires.order.below c.loop-place.place-index 0 (omega arith) in
    elim c.if-visit.branch [
      | then-visit w ↦
          subst (λ (b : Bool). IsVisited c.args.acts.now c.args.order.now c.args.word c.args.column.now c.visit.new.column (c.loop-place.place-index + 1) b) (sym w.changed-is)
          (visited-more c.args.acts.now c.args.order.now c.args.word c.args.column.now c.loop-place.column c.visit.new.column c.loop-place.place-index _ c.loop-place.changed _ c.loop-place.invariant
          within (slice_get-get_or c.args.acts.now _ _ within) (c.visit.ensures.more w.if-visit.true))
      | else-visit w ↦
          let h = c.visit.ensures.same w.if-visit.false in
          subst (λ (b : Bool). IsVisited c.args.acts.now c.args.order.now c.args.word c.args.column.now c.visit.new.column (c.loop-place.place-index + 1) b) (sym w.changed-is)
          (subst (λ z. IsVisited c.args.acts.now c.args.order.now c.args.word c.args.column.now z (c.loop-place.place-index + 1) c.loop-place.changed) (sym h.0)
          (visited-same c.args.acts.now c.args.order.now c.args.word c.args.column.now c.loop-place.column c.loop-place.place-index _ c.loop-place.changed _ c.loop-place.invariant
          refl (slice_get-get_or c.args.acts.now _ _ within) h.1))
    ]

pub returns-clause-closed : goal.returns-clause-closed
returns-clause-closed c =
    visited-closed c.args.acts.now c.args.order.now c.args.word c.args.column.now c.loop-place.column c.loop-place.changed
    (subst (λ k. IsVisited c.args.acts.now c.args.order.now c.args.word c.args.column.now c.loop-place.column k c.loop-place.changed) (let e : c.loop-place.place-index ≡ length c.args.order.now = omega arith in e) c.loop-place.invariant)
    c.requires.order
