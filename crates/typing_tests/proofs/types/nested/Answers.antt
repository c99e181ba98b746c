use Rattle.typing_tests.proofs.LayoutTags.{nested_is}
use Rattle.typing_tests.proofs.types.nested.Goals as goal

pub returns : goal.returns
returns c =
    nested_is c.new-list.result c.push.new.self c.push-2.new.self c.push-3.new.self c.in_ok-innermost.field-0 c.in_ok-innermost-2.field-0 c.in_ok-enclosing.field-0
    c.new-list.ensures c.in_ok-push.ensures.ok c.in_ok-push-2.ensures.ok c.in_ok-push-3.ensures.ok c.in_ok-innermost.ensures c.in_ok-innermost-2.ensures c.in_ok-enclosing.ensures
