use Rattle.std.proofs.Common.{List, length, codes, refl, sym, ap, ◌∙◌}
use Rattle.std.proofs.lemmas.Option.{slice_get_read}
use Rattle.p9_lang.specs.declared.types.CType.{CType}
use Rattle.p9_lang.specs.Types.{type_of, tags_of}
use Rattle.p9_sig.specs.Parts.{writes, ◌⨟◌}
use Rattle.p9_sig.specs.Texts.{number_text, type_text}
use Rattle.p9_sig.specs.Writing.{tag_part, parameters_text, final}
use Rattle.p9_sig.proofs.Shapes.{type_of_void, type_of_char, type_of_uchar, type_of_short, type_of_ushort, type_of_int, type_of_uint, type_of_long, type_of_ulong, type_of_pointer, type_of_array, type_of_function, type_of_tagged}
use Rattle.p9_sig.proofs.Steps.{both_same, letter_step, pointer_step, array_step, front_step, tag_step, there_is_one}
use Rattle.p9_sig.proofs.writer.Writer.write_type.Goals as goal

pub bounds-tags-number : goal.bounds-tags-number
bounds-tags-number c =
    there_is_one c.args.tags.now c.in-Tagged.number c.args.self.now.text.items c.args.self.now.tasks.items c.args.self.now.met
    (type_text (tag_part (tags_of c.args.tags.now)) (type_of c.args.ty.now))
    (ap (λ t. type_text (tag_part (tags_of c.args.tags.now)) (type_of t)) c.in-Tagged.is ∙ ap (type_text (tag_part (tags_of c.args.tags.now))) (type_of_tagged c.in-Tagged.number))
    c.requires

pub returns-in-Void-clause-then : goal.returns-in-Void-clause-then
returns-in-Void-clause-then c =
    letter_step c.put.result (λ tag. final tag c.args.self.now) (λ tag. final tag c.put.new.self) (tag_part (tags_of c.args.tags.now)) (codes "v") (type_text (tag_part (tags_of c.args.tags.now)) (type_of c.args.ty.now))
    (ap (λ t. type_text (tag_part (tags_of c.args.tags.now)) (type_of t)) c.in-Void.is ∙ ap (type_text (tag_part (tags_of c.args.tags.now))) type_of_void) c.put.ensures.then

pub returns-in-Char-clause-then : goal.returns-in-Char-clause-then
returns-in-Char-clause-then c =
    letter_step c.put-in-Char.result (λ tag. final tag c.args.self.now) (λ tag. final tag c.put-in-Char.new.self) (tag_part (tags_of c.args.tags.now)) (codes "c") (type_text (tag_part (tags_of c.args.tags.now)) (type_of c.args.ty.now))
    (ap (λ t. type_text (tag_part (tags_of c.args.tags.now)) (type_of t)) c.in-Char.is ∙ ap (type_text (tag_part (tags_of c.args.tags.now))) type_of_char) c.put-in-Char.ensures.then

pub returns-in-UChar-clause-then : goal.returns-in-UChar-clause-then
returns-in-UChar-clause-then c =
    letter_step c.put-in-UChar.result (λ tag. final tag c.args.self.now) (λ tag. final tag c.put-in-UChar.new.self) (tag_part (tags_of c.args.tags.now)) (codes "C") (type_text (tag_part (tags_of c.args.tags.now)) (type_of c.args.ty.now))
    (ap (λ t. type_text (tag_part (tags_of c.args.tags.now)) (type_of t)) c.in-UChar.is ∙ ap (type_text (tag_part (tags_of c.args.tags.now))) type_of_uchar) c.put-in-UChar.ensures.then

pub returns-in-Short-clause-then : goal.returns-in-Short-clause-then
returns-in-Short-clause-then c =
    letter_step c.put-in-Short.result (λ tag. final tag c.args.self.now) (λ tag. final tag c.put-in-Short.new.self) (tag_part (tags_of c.args.tags.now)) (codes "s") (type_text (tag_part (tags_of c.args.tags.now)) (type_of c.args.ty.now))
    (ap (λ t. type_text (tag_part (tags_of c.args.tags.now)) (type_of t)) c.in-Short.is ∙ ap (type_text (tag_part (tags_of c.args.tags.now))) type_of_short) c.put-in-Short.ensures.then

pub returns-in-UShort-clause-then : goal.returns-in-UShort-clause-then
returns-in-UShort-clause-then c =
    letter_step c.put-in-UShort.result (λ tag. final tag c.args.self.now) (λ tag. final tag c.put-in-UShort.new.self) (tag_part (tags_of c.args.tags.now)) (codes "S") (type_text (tag_part (tags_of c.args.tags.now)) (type_of c.args.ty.now))
    (ap (λ t. type_text (tag_part (tags_of c.args.tags.now)) (type_of t)) c.in-UShort.is ∙ ap (type_text (tag_part (tags_of c.args.tags.now))) type_of_ushort) c.put-in-UShort.ensures.then

pub returns-in-Int-clause-then : goal.returns-in-Int-clause-then
returns-in-Int-clause-then c =
    letter_step c.put-in-Int.result (λ tag. final tag c.args.self.now) (λ tag. final tag c.put-in-Int.new.self) (tag_part (tags_of c.args.tags.now)) (codes "i") (type_text (tag_part (tags_of c.args.tags.now)) (type_of c.args.ty.now))
    (ap (λ t. type_text (tag_part (tags_of c.args.tags.now)) (type_of t)) c.in-Int.is ∙ ap (type_text (tag_part (tags_of c.args.tags.now))) type_of_int) c.put-in-Int.ensures.then

pub returns-in-UInt-clause-then : goal.returns-in-UInt-clause-then
returns-in-UInt-clause-then c =
    letter_step c.put-in-UInt.result (λ tag. final tag c.args.self.now) (λ tag. final tag c.put-in-UInt.new.self) (tag_part (tags_of c.args.tags.now)) (codes "I") (type_text (tag_part (tags_of c.args.tags.now)) (type_of c.args.ty.now))
    (ap (λ t. type_text (tag_part (tags_of c.args.tags.now)) (type_of t)) c.in-UInt.is ∙ ap (type_text (tag_part (tags_of c.args.tags.now))) type_of_uint) c.put-in-UInt.ensures.then

pub returns-in-Long-clause-then : goal.returns-in-Long-clause-then
returns-in-Long-clause-then c =
    letter_step c.put-in-Long.result (λ tag. final tag c.args.self.now) (λ tag. final tag c.put-in-Long.new.self) (tag_part (tags_of c.args.tags.now)) (codes "l") (type_text (tag_part (tags_of c.args.tags.now)) (type_of c.args.ty.now))
    (ap (λ t. type_text (tag_part (tags_of c.args.tags.now)) (type_of t)) c.in-Long.is ∙ ap (type_text (tag_part (tags_of c.args.tags.now))) type_of_long) c.put-in-Long.ensures.then

pub returns-in-ULong-clause-then : goal.returns-in-ULong-clause-then
returns-in-ULong-clause-then c =
    letter_step c.put-in-ULong.result (λ tag. final tag c.args.self.now) (λ tag. final tag c.put-in-ULong.new.self) (tag_part (tags_of c.args.tags.now)) (codes "L") (type_text (tag_part (tags_of c.args.tags.now)) (type_of c.args.ty.now))
    (ap (λ t. type_text (tag_part (tags_of c.args.tags.now)) (type_of t)) c.in-ULong.is ∙ ap (type_text (tag_part (tags_of c.args.tags.now))) type_of_ulong) c.put-in-ULong.ensures.then

pub returns-in_ok-keep-in-Pointer-clause-then : goal.returns-in_ok-keep-in-Pointer-clause-then
returns-in_ok-keep-in-Pointer-clause-then c =
    pointer_step (final (tag_part (tags_of c.args.tags.now)) c.args.self.now) _ _ (type_text (tag_part (tags_of c.args.tags.now)) (type_of c.get.result.now)) (type_text (tag_part (tags_of c.args.tags.now)) (type_of c.args.ty.now))
    (ap (λ t. type_text (tag_part (tags_of c.args.tags.now)) (type_of t)) c.in-Pointer.is ∙ ap (type_text (tag_part (tags_of c.args.tags.now))) (type_of_pointer _)
    ∙ ap (λ t. writes (codes "*") ⨟ type_text (tag_part (tags_of c.args.tags.now)) (type_of t)) (sym c.get.ensures))
    (c.in_ok-put-in-Pointer.ensures.then (tag_part (tags_of c.args.tags.now))) (c.in_ok-keep-in-Pointer.ensures.then (tag_part (tags_of c.args.tags.now)))

pub returns-in_ok-keep-in-Array-clause-then : goal.returns-in_ok-keep-in-Array-clause-then
returns-in_ok-keep-in-Array-clause-then c =
    array_step (final (tag_part (tags_of c.args.tags.now)) c.args.self.now) _ _ _ _ c.in-Array.count (type_text (tag_part (tags_of c.args.tags.now)) (type_of c.get-in-Array.result.now)) (type_text (tag_part (tags_of c.args.tags.now)) (type_of c.args.ty.now))
    (ap (λ t. type_text (tag_part (tags_of c.args.tags.now)) (type_of t)) c.in-Array.is ∙ ap (type_text (tag_part (tags_of c.args.tags.now))) (type_of_array _ c.in-Array.count)
    ∙ ap (λ t. writes (codes "[") ⨟ writes (number_text c.in-Array.count) ⨟ writes (codes "]") ⨟ type_text (tag_part (tags_of c.args.tags.now)) (type_of t)) (sym c.get-in-Array.ensures))
    (c.in_ok-put-in-Array.ensures.then (tag_part (tags_of c.args.tags.now))) (c.in_ok-put_number-in-Array.ensures.then (tag_part (tags_of c.args.tags.now)))
    (c.in_ok-put-in-Array-2.ensures.then (tag_part (tags_of c.args.tags.now))) (c.in_ok-keep-in-Array.ensures.then (tag_part (tags_of c.args.tags.now)))

pub returns-in_ok-write_parameters-in-Function-clause-then : goal.returns-in_ok-write_parameters-in-Function-clause-then
returns-in_ok-write_parameters-in-Function-clause-then c =
    front_step (final (tag_part (tags_of c.args.tags.now)) c.args.self.now) (final (tag_part (tags_of c.args.tags.now)) c.put-in-Function.new.self) (final (tag_part (tags_of c.args.tags.now)) c.write_parameters.new.self) (codes "(")
    (parameters_text (tag_part (tags_of c.args.tags.now)) c.as_slice.result.now c.get-in-Function.result.now) (type_text (tag_part (tags_of c.args.tags.now)) (type_of c.args.ty.now))
    (ap (λ t. type_text (tag_part (tags_of c.args.tags.now)) (type_of t)) c.in-Function.is ∙ ap (type_text (tag_part (tags_of c.args.tags.now))) (type_of_function _ _)
    ∙ both_same (λ (ts : List CType) (t : CType). writes (codes "(") ⨟ parameters_text (tag_part (tags_of c.args.tags.now)) ts t) _ _ _ _ (sym c.as_slice.ensures) (sym c.get-in-Function.ensures))
    (c.in_ok-put-in-Function.ensures.then (tag_part (tags_of c.args.tags.now))) (c.in_ok-write_parameters-in-Function.ensures.then (tag_part (tags_of c.args.tags.now)))

pub returns-in_ok-write_tag-in-Tagged-clause-then : goal.returns-in_ok-write_tag-in-Tagged-clause-then
returns-in_ok-write_tag-in-Tagged-clause-then c =
    tag_step c.args.tags.now c.in-Tagged.number c.index-tags-number.result c.args.self.now.text.items c.args.self.now.tasks.items c.args.self.now.met (final (tag_part (tags_of c.args.tags.now)) c.write_tag.new.self) (type_text (tag_part (tags_of c.args.tags.now)) (type_of c.args.ty.now))
    (ap (λ t. type_text (tag_part (tags_of c.args.tags.now)) (type_of t)) c.in-Tagged.is ∙ ap (type_text (tag_part (tags_of c.args.tags.now))) (type_of_tagged c.in-Tagged.number))
    (slice_get_read c.args.tags.now (length c.args.tags.now) c.in-Tagged.number c.index-tags-number.result refl
    (there_is_one c.args.tags.now c.in-Tagged.number c.args.self.now.text.items c.args.self.now.tasks.items c.args.self.now.met (type_text (tag_part (tags_of c.args.tags.now)) (type_of c.args.ty.now)) (ap (λ t. type_text (tag_part (tags_of c.args.tags.now)) (type_of t)) c.in-Tagged.is ∙ ap (type_text (tag_part (tags_of c.args.tags.now))) (type_of_tagged c.in-Tagged.number)) c.requires)
    c.index-tags-number.is)
    (c.in_ok-write_tag-in-Tagged.ensures.then (tag_part (tags_of c.args.tags.now)))
