use Rattle.p9_prefix.proofs.Wholes.{reads-wholes}
use Rattle.p9_prefix.proofs.laws.machine_reads_wholes.Goals as goal

pub returns : goal.returns
returns c = reads-wholes
