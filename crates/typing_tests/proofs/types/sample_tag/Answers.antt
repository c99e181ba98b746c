use Rattle.std.proofs.Common.{codes, ap, ◌∙◌}
use Rattle.p9_lang.specs.LayoutExamples.{of}
use Rattle.p9_types.proofs.Shapes.{type_of_char, type_of_int, type_of_short}
use Rattle.typing_tests.proofs.LayoutTags.{sample_tag_is}
use Rattle.typing_tests.proofs.types.sample_tag.Goals as goal

pub returns : goal.returns
returns c =
    sample_tag_is c.args.is_union c.new.result.items c.new-members.result c.push.new.self c.push-2.new.self c.push-3.new.self
    c.in_ok-member.field-0 c.in_ok-member-2.field-0 c.in_ok-member-3.field-0
    c.new.ensures.items c.new-members.ensures c.in_ok-push.ensures.ok c.in_ok-push-2.ensures.ok c.in_ok-push-3.ensures.ok
    (c.in_ok-member.ensures ∙ ap (of (codes "c")) type_of_char) (c.in_ok-member-2.ensures ∙ ap (of (codes "n")) type_of_int)
    (c.in_ok-member-3.ensures ∙ ap (of (codes "s")) type_of_short)
