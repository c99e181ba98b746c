use Rattle.std.proofs.Common.{[], refl, ap, ◌∙◌}
use Rattle.p9_lang.specs.Types.{type_of}
use Rattle.p9_lang.specs.Parts.{object_type, last_object}
use Rattle.p9_lang.specs.Typing.{spec_rules}
use Rattle.p9_operand.specs.Told.{told_least}
use Rattle.p9_scopes.specs.State.{known_of}
use Rattle.p9_parts.specs.Told.{frame_of, part_of, parts_of}
use Rattle.p9_kinds.proofs.Answered.{judges_same, named_answer}
use Rattle.p9_kinds.proofs.Specs.{least_alone}
use Rattle.p9_kinds.proofs.heads.judged_type.Goals as goal

pub returns : goal.returns
returns c =
    λ names. judges_same part_of c.has.result (known_of c.has.new.known)
    (named_answer (spec_rules (frame_of names c.args.frame) (known_of c.args.known.now))
    (object_type (last_object (parts_of c.args.parts.now)) (type_of c.args.frame.base))
    (type_of c.in_ok-copy.copy) (type_of c.in_ok-copied.field-0) (type_of c.in_ok-ty.ty) (known_of c.args.known.now)
    (ap type_of c.in_ok-copy.ensures ∙ c.in_ok-ty.ensures) (ap type_of c.in_ok-copied.ensures ∙ c.in_ok-ty.ensures) c.in_ok-ty.ensures)
    (c.has.ensures (spec_rules (frame_of names c.args.frame) (known_of c.args.known.now))
    (least_alone (told_least c.in_ok-rule.rule) (spec_rules (frame_of names c.args.frame) (known_of c.args.known.now)) (c.in_ok-rule.ensures [] refl)))
