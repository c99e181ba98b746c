use Rattle.p9_headline.proofs.laws.no_halt_of_defined_sources.Goals as goal
use Rattle.p9_headline.proofs.Sources.{never_halted}

pub returns : goal.returns
returns c = never_halted
