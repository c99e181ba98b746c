use Rattle.std.proofs.Common.{ap, ◌∙◌}
use Rattle.p9_lang.specs.Types.{Pointer}
use Rattle.p9_types.proofs.Shapes.{type_of_tagged}
use Rattle.typing_tests.proofs.SignatureTags.{edge_is}
use Rattle.typing_tests.proofs.sig.edge.Goals as goal

pub returns : goal.returns
returns c =
    edge_is c.in_ok-ident-2.field-0 c.new-members.result c.push.new.self (record { name = c.in_ok-ident.field-0; ty = c.in_ok-pointer.field-0 })
    c.in_ok-ident-2.ensures c.new-members.ensures c.in_ok-push.ensures.ok c.in_ok-ident.ensures (c.in_ok-pointer.ensures ∙ ap Pointer (type_of_tagged 0))
