use Rattle.p9_grammar.proofs.Unique.{refuses-rightly}
use Rattle.p9_grammar.proofs.laws.machine_refuses_rightly.Goals as goal

pub returns : goal.returns
returns c = refuses-rightly
