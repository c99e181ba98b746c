use Rattle.p9_abs.proofs.Composing.{keeps_compose}
use Rattle.p9_abs.proofs.Reaching.{reached_by_ways}
use Rattle.p9_abs.proofs.laws.code_laws.Goals as goal

pub returns-clause-reached : goal.returns-clause-reached
returns-clause-reached c = reached_by_ways

pub returns-clause-composed : goal.returns-clause-composed
returns-clause-composed c = keeps_compose
