use Rattle.std.proofs.Common.{false}
use Rattle.typing_tests.proofs.LayoutTags.{ends_as_sample}
use Rattle.typing_tests.proofs.types.sample_member.Goals as goal

pub find_member-requires : goal.find_member-requires
find_member-requires c = ends_as_sample false c.in_ok-tags.tags.list c.in_ok-tags.ensures
