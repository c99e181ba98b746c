use Rattle.typing_tests.proofs.LayoutTags.{ends_as_sample}
use Rattle.typing_tests.proofs.types.laid.Goals as goal

pub layout-requires : goal.layout-requires
layout-requires c = ends_as_sample c.args.is_union c.in_ok-tags.tags.list c.in_ok-tags.ensures
