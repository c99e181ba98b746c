use Rattle.p9_r3k.proofs.Runs.{straight_run-ended, straight_run-sum, straight_run-out, straight_run-left}
use Rattle.p9_r3k.proofs.laws.straight_laws.Goals as goal

pub returns-clause-ended : goal.returns-clause-ended
returns-clause-ended c = straight_run-ended

pub returns-clause-composed : goal.returns-clause-composed
returns-clause-composed c = straight_run-sum

pub returns-clause-output : goal.returns-clause-output
returns-clause-output c = straight_run-out

pub returns-clause-input : goal.returns-clause-input
returns-clause-input c = straight_run-left
