use Rattle.p9_straight.proofs.BuildCommons.{adds_new}
use Rattle.p9_straight.proofs.commons.add_common.Goals as goal

pub returns-then-branch-clause-adds : goal.returns-then-branch-clause-adds
returns-then-branch-clause-adds c = adds_new _ _ _ _ _ c.if-branch.true c.in_ok-note.ensures.is_new c.in_ok-note.ensures.entries
