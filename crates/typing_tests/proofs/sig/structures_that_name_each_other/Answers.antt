use Rattle.std.proofs.Common.{sym, ap, subst, ◌∙◌}
use Rattle.p9_lang.specs.Types.{Pointer, type_of}
use Rattle.p9_lang.specs.TagRules.{AreValid}
use Rattle.p9_sig.specs.Examples.{node_first}
use Rattle.p9_sig.specs.TypesInRange.{IsOver}
use Rattle.p9_types.proofs.Shapes.{type_of_tagged}
use Rattle.typing_tests.proofs.SignatureTags.{tags_are, node_first_valid, node_first_over}
use Rattle.typing_tests.proofs.sig.structures_that_name_each_other.Goals as goal

pub signature-requires-clause-valid : goal.signature-requires-clause-valid
signature-requires-clause-valid g c = subst AreValid (sym (tags_are c.new-list.result c.push.new.self c.push-2.new.self c.in_ok-node.field-0 c.in_ok-edge.field-0 c.new-list.ensures c.in_ok-push.ensures.ok c.in_ok-push-2.ensures.ok c.in_ok-node.ensures c.in_ok-edge.ensures)) node_first_valid

pub signature-requires-clause-over : goal.signature-requires-clause-over
signature-requires-clause-over g c =
    subst (λ ts. IsOver ts (type_of c.in_ok-first.first)) (sym (tags_are c.new-list.result c.push.new.self c.push-2.new.self c.in_ok-node.field-0 c.in_ok-edge.field-0 c.new-list.ensures c.in_ok-push.ensures.ok c.in_ok-push-2.ensures.ok c.in_ok-node.ensures c.in_ok-edge.ensures))
    (subst (IsOver node_first) (sym (c.in_ok-first.ensures ∙ ap Pointer (type_of_tagged 0))) node_first_over)
