use Rattle.typing_tests.proofs.StructureTags.{example_tags_are}
use Rattle.typing_tests.proofs.verdict.example_tags.Goals as goal

pub returns : goal.returns
returns c =
    example_tags_are c.new-list.result c.push.new.self c.push-2.new.self c.in_ok-complete_tag.field-0 c.in_ok-incomplete_tag.field-0
    c.new-list.ensures c.in_ok-push.ensures.ok c.in_ok-push-2.ensures.ok c.in_ok-complete_tag.ensures c.in_ok-incomplete_tag.ensures
