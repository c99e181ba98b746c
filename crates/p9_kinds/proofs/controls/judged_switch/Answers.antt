use Rattle.std.proofs.Common.{slice_get, ap, ◌∙◌}
use Rattle.p9_operand.specs.Least.{least}
use Rattle.p9_lang.specs.Typing.{switch_rules}
use Rattle.p9_parts.specs.Told.{parts_of}
use Rattle.p9_kinds.proofs.controls.judged_switch.Goals as goal

pub returns : goal.returns
returns c = c.typeless.ensures (switch_rules (slice_get (parts_of c.args.parts.now) 0)) (c.switch_rule-rule.ensures ∙ ap (λ p. least (switch_rules p)) c.part_at.ensures)
