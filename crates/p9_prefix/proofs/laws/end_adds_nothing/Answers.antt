use Rattle.p9_prefix.proofs.Closing.{end-adds-nothing}
use Rattle.p9_prefix.proofs.laws.end_adds_nothing.Goals as goal

pub returns : goal.returns
returns c = end-adds-nothing
