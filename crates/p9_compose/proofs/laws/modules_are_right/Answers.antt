use Rattle.p9_compose.proofs.Modules.{union_is_program, main_is_right}
use Rattle.p9_compose.proofs.laws.modules_are_right.Goals as goal

pub returns-clause-union : goal.returns-clause-union
returns-clause-union c = union_is_program

pub returns-clause-main : goal.returns-clause-main
returns-clause-main c = main_is_right
