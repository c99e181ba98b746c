use Rattle.std.proofs.Common.{[], codes, ap, ◌∙◌}
use Rattle.p9_lang.specs.Types.{Int}
use Rattle.p9_lang.specs.LayoutExamples.{of, structure}
use Rattle.p9_types.proofs.Shapes.{type_of_int}
use Rattle.typing_tests.proofs.LayoutTags.{one_member}
use Rattle.typing_tests.proofs.types.innermost.Goals as goal

pub returns : goal.returns
returns c =
    c.structure.ensures
    ∙ ap (structure []) (one_member c.new-members.result c.push.new.self c.in_ok-member.field-0 (of (codes "k") Int) c.new-members.ensures c.in_ok-push.ensures.ok
    (c.in_ok-member.ensures ∙ ap (of (codes "k")) type_of_int))
