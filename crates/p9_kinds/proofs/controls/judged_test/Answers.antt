use Rattle.std.proofs.Common.{slice_get, ap, ◌∙◌}
use Rattle.p9_operand.specs.Least.{least}
use Rattle.p9_lang.specs.Typing.{test_rules}
use Rattle.p9_parts.specs.Told.{parts_of}
use Rattle.p9_kinds.proofs.controls.judged_test.Goals as goal

pub returns : goal.returns
returns c = c.typeless.ensures (test_rules (slice_get (parts_of c.args.parts.now) c.args.place)) (c.test_rule-rule.ensures ∙ ap (λ p. least (test_rules p)) c.part_at.ensures)
