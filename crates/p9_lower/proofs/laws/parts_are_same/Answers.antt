use Rattle.p9_lower.proofs.Means as means
use Rattle.p9_lower.proofs.laws.parts_are_same.Goals as goal

pub returns : goal.returns
returns c = means.parts_are_same
