use Rattle.p9_r3k.proofs.Later.{pending_run-settled}
use Rattle.p9_r3k.proofs.laws.pending_laws.Goals as goal

pub returns : goal.returns
returns c = pending_run-settled
