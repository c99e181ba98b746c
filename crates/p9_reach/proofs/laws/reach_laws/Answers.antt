use Rattle.p9_reach.proofs.Reaching.{schedule_reaches}
use Rattle.p9_reach.proofs.laws.reach_laws.Goals as goal

pub returns : goal.returns
returns c = schedule_reaches
