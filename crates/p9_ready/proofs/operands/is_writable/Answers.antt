use Rattle.std.proofs.Common.{sym}
use Rattle.p9_ready.proofs.Lasts.{writable_last}
use Rattle.p9_ready.proofs.operands.is_writable.Goals as goal

pub returns-in-Some : goal.returns-in-Some
returns-in-Some c =
    let last = writable_last c.args.operands.now c.in-Some.last.now (sym c.in-Some.ensures.value) in
    (λ t. last.1 (c.may_be_written.ensures.0 t), λ h. c.may_be_written.ensures.1 (last.0 h))
