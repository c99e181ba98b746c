use Rattle.p9_carry.proofs.Over.{carries_over}
use Rattle.p9_carry.proofs.laws.carries_over.Goals as goal

pub returns : goal.returns
returns c = carries_over
