use Rattle.std.proofs.Common.{ap, ◌∙◌}
use Rattle.p9_lang.specs.Types.{Pointer, type_of}
use Rattle.p9_types.proofs.Shapes.{type_of_void}
use Rattle.typing_tests.proofs.SignatureTags.{function_over, pointer_over, two_pointers_over}
use Rattle.typing_tests.proofs.sig.the_longest_text.Goals as goal

pub signature-requires-clause-over : goal.signature-requires-clause-over
signature-requires-clause-over g c =
    function_over c.new.result c.in_ok-new.field-0 c.in_ok-integers.field-0 c.new.ensures
    (pointer_over c.in_ok-new.field-0 (ap type_of c.in_ok-new.ensures ∙ c.in_ok-target.ensures ∙ ap Pointer type_of_void)) c.in_ok-integers.ensures

pub signature-answer-requires-clause-over : goal.signature-answer-requires-clause-over
signature-answer-requires-clause-over g c =
    function_over c.new.result c.in_ok-new-2.field-0 c.in_ok-integers-2.field-0 c.new.ensures
    (two_pointers_over c.in_ok-new-2.field-0 (ap type_of c.in_ok-new-2.ensures ∙ c.in_ok-longer.ensures ∙ ap Pointer (c.in_ok-target-2.ensures ∙ ap Pointer type_of_void))) c.in_ok-integers-2.ensures
