use Rattle.p9_r3k.proofs.Runs.{run-ended, run-sum, run-out, run-left}
use Rattle.p9_r3k.proofs.laws.machine_laws.Goals as goal

pub returns-clause-ended : goal.returns-clause-ended
returns-clause-ended c = run-ended

pub returns-clause-composed : goal.returns-clause-composed
returns-clause-composed c = run-sum

pub returns-clause-output : goal.returns-clause-output
returns-clause-output c = run-out

pub returns-clause-input : goal.returns-clause-input
returns-clause-input c = run-left
