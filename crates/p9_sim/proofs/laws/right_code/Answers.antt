use Rattle.p9_sim.proofs.Five.{five_is_right}
use Rattle.p9_sim.proofs.laws.right_code.Goals as goal

pub returns : goal.returns
returns c = five_is_right
