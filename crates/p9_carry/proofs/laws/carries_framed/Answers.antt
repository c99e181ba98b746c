use Rattle.p9_carry.proofs.Framing.{carries_framed}
use Rattle.p9_carry.proofs.laws.carries_framed.Goals as goal

pub returns : goal.returns
returns c = carries_framed
