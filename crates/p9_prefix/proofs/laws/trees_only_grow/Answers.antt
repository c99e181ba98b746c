use Rattle.p9_prefix.proofs.Growing.{only-grows}
use Rattle.p9_prefix.proofs.laws.trees_only_grow.Goals as goal

pub returns : goal.returns
returns c = only-grows
