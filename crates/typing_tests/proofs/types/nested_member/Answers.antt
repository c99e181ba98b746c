use Rattle.typing_tests.proofs.LayoutTags.{ends_as_nested}
use Rattle.typing_tests.proofs.types.nested_member.Goals as goal

pub find_member-requires : goal.find_member-requires
find_member-requires c = ends_as_nested c.in_ok-tags.tags.list c.in_ok-tags.ensures
