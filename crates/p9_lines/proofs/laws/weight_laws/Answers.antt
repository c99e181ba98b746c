use Rattle.p9_lines.proofs.Weighing.{within_weights, entry_within, start_within}
use Rattle.p9_lines.proofs.Having.{have_lines}
use Rattle.p9_lines.proofs.laws.weight_laws.Goals as goal

pub returns : goal.returns
returns c = record { forms = within_weights; entries = entry_within; start = start_within; lines = have_lines }
