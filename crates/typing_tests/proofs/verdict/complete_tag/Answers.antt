use Rattle.typing_tests.proofs.StructureTags.{complete_tag_is}
use Rattle.typing_tests.proofs.verdict.complete_tag.Goals as goal

pub returns : goal.returns
returns c =
    complete_tag_is c.in_ok-ident-2.field-0 c.in_ok-ident.field-0 c.new-members.result c.push.new.self
    c.in_ok-ident-2.ensures c.in_ok-ident.ensures c.new-members.ensures c.in_ok-push.ensures.ok
