use Rattle.p9_prefix.proofs.Endless.{phrases-are-endless}
use Rattle.p9_prefix.proofs.laws.phrases_are_endless.Goals as goal

pub returns : goal.returns
returns c = phrases-are-endless
