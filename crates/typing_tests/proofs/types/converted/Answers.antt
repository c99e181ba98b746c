use Rattle.typing_tests.proofs.LayoutTags.{ends_as_nested}
use Rattle.typing_tests.proofs.types.converted.Goals as goal

pub convert-requires : goal.convert-requires
convert-requires c = ends_as_nested c.in_ok-tags.tags.list c.in_ok-tags.ensures
