use Rattle.std.proofs.Common.{[], ap, ◌∙◌}
use Rattle.p9_lang.specs.Types.{Tagged}
use Rattle.p9_lang.specs.LayoutExamples.{of, structure}
use Rattle.p9_types.proofs.Shapes.{type_of_tagged}
use Rattle.typing_tests.proofs.LayoutTags.{two_members}
use Rattle.typing_tests.proofs.types.enclosing.Goals as goal

pub returns : goal.returns
returns c =
    c.structure.ensures
    ∙ ap (structure []) (two_members c.new-members.result c.push.new.self c.push-2.new.self c.in_ok-member.field-0 c.in_ok-member-2.field-0 (of [] (Tagged 0)) (of [] (Tagged 1))
    c.new-members.ensures c.in_ok-push.ensures.ok c.in_ok-push-2.ensures.ok
    (c.in_ok-member.ensures ∙ ap (of []) (type_of_tagged 0)) (c.in_ok-member-2.ensures ∙ ap (of []) (type_of_tagged 1)))
