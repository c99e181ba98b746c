use Rattle.p9_abs.proofs.Growing.{runs_compose, ended_runs_stay}
use Rattle.p9_abs.proofs.Choosing.{chosen_is_chosen, none_is_undefined}
use Rattle.p9_abs.proofs.laws.program_laws.Goals as goal

pub returns-clause-chosen : goal.returns-clause-chosen
returns-clause-chosen c = chosen_is_chosen

pub returns-clause-undefined : goal.returns-clause-undefined
returns-clause-undefined c = none_is_undefined

pub returns-clause-composed : goal.returns-clause-composed
returns-clause-composed c = runs_compose

pub returns-clause-ended : goal.returns-clause-ended
returns-clause-ended c = ended_runs_stay
