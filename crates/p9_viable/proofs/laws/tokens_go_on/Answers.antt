use Rattle.p9_viable.proofs.Beginning.{goes-on}
use Rattle.p9_viable.proofs.laws.tokens_go_on.Goals as goal

pub returns : goal.returns
returns c = goes-on
