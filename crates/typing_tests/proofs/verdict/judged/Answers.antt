use Rattle.typing_tests.proofs.StructureTags.{ends}
use Rattle.typing_tests.proofs.verdict.judged.Goals as goal

pub verdict-requires : goal.verdict-requires
verdict-requires c = ends c.in_ok-tags.tags.list c.in_ok-tags.ensures
