use Rattle.p9_grammar.proofs.Unique.{reads-files}
use Rattle.p9_grammar.proofs.laws.machine_reads_files.Goals as goal

pub returns : goal.returns
returns c = reads-files
