use Rattle.p9_straight.proofs.BuildLists.{uncons_is}
use Rattle.p9_straight.proofs.BuildCode.{statements_turn}
use Rattle.p9_straight.proofs.code.statements.Goals as goal

pub loop-rest-preserved : goal.loop-rest-preserved
loop-rest-preserved c =
    statements_turn _ _ _ _ _ _ _ _ _ _ (uncons_is c.loop-rest.rest.now _ c.in-len1-up.len_at_least c.first-item.is) c.text_after-text_at.ensures c.in_ok-statement.ensures c.loop-rest.invariant
