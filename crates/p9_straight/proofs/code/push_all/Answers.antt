use Rattle.std.proofs.Common.{arith}
use Rattle.p9_straight.proofs.BuildLists.{uncons}
use Rattle.p9_straight.proofs.BuildCode.{code_turn, code_end}
use Rattle.p9_straight.proofs.code.push_all.Goals as goal

pub loop-rest-preserved : goal.loop-rest-preserved
loop-rest-preserved c =
    code_turn _ _ _ _ _ _ (uncons c.loop-rest.rest.now _ c.in-len1-up.len_at_least) c.in_ok-push.ensures c.loop-rest.invariant

pub returns : goal.returns
returns c = code_end _ _ c.loop-rest.rest.now (omega (arith, c.in_default.len_below)) c.loop-rest.invariant.1
