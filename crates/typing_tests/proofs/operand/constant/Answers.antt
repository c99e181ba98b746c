use Rattle.typing_tests.proofs.NoTags.{none_end}
use Rattle.typing_tests.proofs.operand.constant.Goals as goal

pub constant_at-requires : goal.constant_at-requires
constant_at-requires c = none_end _ c.new.ensures
