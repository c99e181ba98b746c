use Rattle.std.proofs.Common.{inr, sym, ◌∙◌}
use Rattle.std.proofs.lemmas.Result.{err_from_is_err_and}
use Rattle.p9_steps.specs.Places.{state}
use Rattle.p9_reader.proofs.Taking.{all_bytes, field_fails, field_next, field_smaller, bytes_follow, none_left}
use Rattle.p9_reader.proofs.fields.all_taken.Goals as goal

pub returns-in_err-place-clause-refused : goal.returns-in_err-place-clause-refused
returns-in_err-place-clause-refused c =
    let p = err_from_is_err_and c.from_residual.result c.from_residual.ensures.1 in
    rw (p.1, p.2) (field_fails c.args.bytes.now c.loop-end.place.taken c.in-Some.end (state c.loop-end.place.state) c.in_err-place.field-0.0 (all_bytes c.args.bytes.now c.type_inv.bytes) c.loop-end.invariant c.in-Some.ensures c.in_err-place.ensures.refused)

pub loop-end-smaller : goal.loop-end-smaller
loop-end-smaller c =
    field_smaller c.args.bytes.now c.loop-end.place.taken c.in-Some.end c.in_ok-place.place.taken (state c.loop-end.place.state) (state c.in_ok-place.place.state) (all_bytes c.args.bytes.now c.type_inv.bytes) c.loop-end.invariant c.in-Some.ensures c.in_ok-place.ensures.taken

pub loop-end-preserved : goal.loop-end-preserved
loop-end-preserved c =
    field_next c.args.bytes.now c.loop-end.place.taken c.in-Some.end c.in_ok-place.place.taken (state c.loop-end.place.state) (state c.in_ok-place.place.state) (all_bytes c.args.bytes.now c.type_inv.bytes) c.loop-end.invariant c.in-Some.ensures c.in_ok-place.ensures.taken

pub returns-then-place-bytes-clause-refused : goal.returns-then-place-bytes-clause-refused
returns-then-place-bytes-clause-refused c =
    inr (bytes_follow c.args.bytes.now c.loop-end.place.taken (state c.loop-end.place.state) c.loop-end.invariant (sym c.is_done.ensures ∙ c.if-is_done.true) c.if-place-bytes.true)

pub returns-clause-taken : goal.returns-clause-taken
returns-clause-taken c =
    none_left c.args.bytes.now c.loop-end.place.taken (state c.loop-end.place.state) c.is_done.result c.loop-end.invariant c.in_default.ensures c.is_done.ensures c.else-is_done.either
