use Rattle.p9_start.proofs.Starting.{start_is_right}
use Rattle.p9_start.proofs.laws.start_is_right.Goals as goal

pub returns : goal.returns
returns c = start_is_right
