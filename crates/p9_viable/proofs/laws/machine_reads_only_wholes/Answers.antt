use Rattle.p9_viable.proofs.Ended.{reads-only-wholes}
use Rattle.p9_viable.proofs.laws.machine_reads_only_wholes.Goals as goal

pub returns : goal.returns
returns c = reads-only-wholes
