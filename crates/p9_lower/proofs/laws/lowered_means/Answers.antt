use Rattle.p9_lower.proofs.Means as means
use Rattle.p9_lower.proofs.laws.lowered_means.Goals as goal

pub returns : goal.returns
returns c = means.lowered_means
