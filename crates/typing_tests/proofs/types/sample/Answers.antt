use Rattle.typing_tests.proofs.LayoutTags.{sample_is}
use Rattle.typing_tests.proofs.types.sample.Goals as goal

pub returns : goal.returns
returns c =
    sample_is c.args.is_union c.new-list.result c.push.new.self c.in_ok-sample_tag.field-0 c.new-list.ensures c.in_ok-push.ensures.ok c.in_ok-sample_tag.ensures
