use Rattle.std.proofs.Common.{◌++◌, ap, ◌∙◌}
use Rattle.p9_lang.specs.Types.{type_of}
use Rattle.p9_lang.specs.Parts.{Members, last_object, or_unnamed}
use Rattle.p9_lang.specs.Typing.{typeless, spec_rules, unnamed_rules}
use Rattle.p9_operand.specs.Least.{least}
use Rattle.p9_scopes.specs.State.{known_of}
use Rattle.p9_parts.specs.Told.{frame_of, part_of, parts_of}
use Rattle.p9_kinds.proofs.Answered.{judges_same}
use Rattle.p9_kinds.proofs.heads.judged_member.Goals as goal

pub returns : goal.returns
returns c =
    λ names. judges_same part_of c.typeless.result (known_of c.typeless.new.known)
    (ap (λ ms. typeless
    (spec_rules (frame_of names c.args.frame) (known_of c.args.known.now)
    ++ unnamed_rules (known_of c.args.known.now).tags (type_of c.args.frame.base) (last_object (parts_of c.args.parts)))
    (Members ms) (known_of c.args.known.now))
    (c.in_ok-members.ensures ∙ ap (or_unnamed (type_of c.args.frame.base)) (c.in_ok-declared.ensures (type_of c.args.frame.base))))
    (c.typeless.ensures
    (spec_rules (frame_of names c.args.frame) (known_of c.args.known.now)
    ++ unnamed_rules (known_of c.args.known.now).tags (type_of c.args.frame.base) (last_object (parts_of c.args.parts)))
    (c.in_ok-rule.ensures (unnamed_rules (known_of c.args.known.now).tags (type_of c.args.frame.base) (last_object (parts_of c.args.parts)))
    (c.in_ok-unnamed.ensures ∙ ap (λ o. least (unnamed_rules (known_of c.args.known.now).tags (type_of c.args.frame.base) o)) c.last_object.ensures)))
