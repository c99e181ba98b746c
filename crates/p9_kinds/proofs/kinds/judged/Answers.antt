use Rattle.std.proofs.Common.{sym, ap}
use Rattle.p9_lang.specs.declared.tree.Kind.{Kind}
use Rattle.p9_lang.specs.Typing as specs
use Rattle.p9_scopes.specs.State.{known_of}
use Rattle.p9_parts.specs.Told.{frame_of, part_of, parts_of}
use Rattle.p9_kinds.proofs.Answered.{judges_same}
use Rattle.p9_kinds.proofs.kinds.judged.Goals as goal

pub returns-in-Declaration : goal.returns-in-Declaration
returns-in-Declaration c =
    λ names. judges_same part_of c.judged_declaration.result (known_of c.judged_declaration.new.known)
    (sym (ap (λ (kind : Kind). specs.judged kind (frame_of names c.args.frame) (parts_of c.args.parts) (known_of c.args.known.now)) c.in-Declaration.is))
    (c.judged_declaration.ensures names)

pub returns-in-Function : goal.returns-in-Function
returns-in-Function c =
    λ names. judges_same part_of c.judged_function.result (known_of c.judged_function.new.known)
    (sym (ap (λ (kind : Kind). specs.judged kind (frame_of names c.args.frame) (parts_of c.args.parts) (known_of c.args.known.now)) c.in-Function.is))
    (c.judged_function.ensures names)

pub returns-in-Member : goal.returns-in-Member
returns-in-Member c =
    λ names. judges_same part_of c.judged_member.result (known_of c.judged_member.new.known)
    (sym (ap (λ (kind : Kind). specs.judged kind (frame_of names c.args.frame) (parts_of c.args.parts) (known_of c.args.known.now)) c.in-Member.is))
    (c.judged_member.ensures names)

pub returns-in-Param : goal.returns-in-Param
returns-in-Param c =
    λ names. judges_same part_of c.judged_parameter.result (known_of c.judged_parameter.new.known)
    (sym (ap (λ (kind : Kind). specs.judged kind (frame_of names c.args.frame) (parts_of c.args.parts) (known_of c.args.known.now)) c.in-Param.is))
    (c.judged_parameter.ensures names)

pub returns-in-NamedType : goal.returns-in-NamedType
returns-in-NamedType c =
    λ names. judges_same part_of c.judged_type.result (known_of c.judged_type.new.known)
    (sym (ap (λ (kind : Kind). specs.judged kind (frame_of names c.args.frame) (parts_of c.args.parts) (known_of c.args.known.now)) c.in-NamedType.is))
    (c.judged_type.ensures names)

pub returns-in-Break : goal.returns-in-Break
returns-in-Break c =
    λ names. judges_same part_of c.judged_break.result (known_of c.judged_break.new.known)
    (sym (ap (λ (kind : Kind). specs.judged kind (frame_of names c.args.frame) (parts_of c.args.parts) (known_of c.args.known.now)) c.in-Break.is))
    (c.judged_break.ensures names)

pub returns-in-Continue : goal.returns-in-Continue
returns-in-Continue c =
    λ names. judges_same part_of c.judged_continue.result (known_of c.judged_continue.new.known)
    (sym (ap (λ (kind : Kind). specs.judged kind (frame_of names c.args.frame) (parts_of c.args.parts) (known_of c.args.known.now)) c.in-Continue.is))
    (c.judged_continue.ensures names)
