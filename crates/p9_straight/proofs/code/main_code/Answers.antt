use Rattle.p9_straight.proofs.BuildCode.{code_last}
use Rattle.p9_straight.proofs.code.main_code.Goals as goal

pub returns : goal.returns
returns c = code_last _ _ _ _ _ _ c.in_ok-push_all.ensures c.statements.ensures
