use Rattle.p9_r3k.proofs.DelayedRuns.{delayed_run-ended, delayed_run-sum}
use Rattle.p9_r3k.proofs.scheduling.delayed_laws.Goals as goal

pub returns-clause-ended : goal.returns-clause-ended
returns-clause-ended c = delayed_run-ended

pub returns-clause-composed : goal.returns-clause-composed
returns-clause-composed c = delayed_run-sum
