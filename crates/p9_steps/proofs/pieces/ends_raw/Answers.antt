use Rattle.std.proofs.Common.{sym, ◌∙◌}
use Rattle.p9_steps.proofs.Room.{ends_last}
use Rattle.p9_steps.proofs.pieces.ends_raw.Goals as goal

pub returns-in-Some : goal.returns-in-Some
returns-in-Some c = c.is_raw.ensures ∙ sym (ends_last c.args.before.now c.in-Some.last.now (sym c.in-Some.ensures.value))
