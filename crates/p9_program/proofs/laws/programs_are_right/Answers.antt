use Rattle.p9_program.proofs.Whole.{programs_are_right, budget_is_enough}
use Rattle.p9_program.proofs.laws.programs_are_right.Goals as goal

pub returns-clause-right : goal.returns-clause-right
returns-clause-right c = programs_are_right

pub returns-clause-budget : goal.returns-clause-budget
returns-clause-budget c = budget_is_enough
