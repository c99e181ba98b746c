use Rattle.p9_grammar.proofs.Sound.{reads-only-files}
use Rattle.p9_grammar.proofs.laws.machine_reads_only_files.Goals as goal

pub returns : goal.returns
returns c = reads-only-files
