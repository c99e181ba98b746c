use Rattle.p9_prefix.proofs.Wholes.{refuses}
use Rattle.p9_prefix.proofs.laws.machine_refuses_wholes_rightly.Goals as goal

pub returns : goal.returns
returns c = refuses
