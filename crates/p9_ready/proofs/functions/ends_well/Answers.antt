use Rattle.std.proofs.Common.{sym}
use Rattle.p9_ready.proofs.Lasts.{ends_last}
use Rattle.p9_ready.proofs.functions.ends_well.Goals as goal

pub returns-in-Some : goal.returns-in-Some
returns-in-Some c =
    let last = ends_last c.args.code.now c.in-Some.last.now (sym c.in-Some.ensures.value) in
    (λ t. last.1 (c.is_end.ensures.0 t), λ h. c.is_end.ensures.1 (last.0 h))
