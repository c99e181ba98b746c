use Rattle.p9_straight.proofs.BuildCode.{code_sum}
use Rattle.p9_straight.proofs.code.assign.Goals as goal

pub returns-in_ok-add-in-Some : goal.returns-in_ok-add-in-Some
returns-in_ok-add-in-Some c =
    rw c.in-Some.is (code_sum _ _ _ _ _ _ _ _ _ c.in_ok-load_operand.ensures c.in_ok-add-in-Some.ensures c.store-in-Some.ensures)
