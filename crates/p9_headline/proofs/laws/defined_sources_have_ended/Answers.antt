use Rattle.p9_headline.proofs.laws.defined_sources_have_ended.Goals as goal
use Rattle.p9_headline.proofs.Sources.{ended_as_exited}

pub returns : goal.returns
returns c = ended_as_exited
