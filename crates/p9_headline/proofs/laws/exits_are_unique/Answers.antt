use Rattle.p9_headline.proofs.laws.exits_are_unique.Goals as goal
use Rattle.p9_headline.proofs.Exited.{exits_once}

pub returns : goal.returns
returns c = exits_once
