use Rattle.std.proofs.Common.{None, refl}
use Rattle.p9_tree_build.specs.Machines.{frame_of}
use Rattle.p9_decl.proofs.Finding.{if_none, no_goal, no_sole}
use Rattle.p9_decl.proofs.finish.sole_part.Goals as goal
use Rattle.p9_decl.proofs.finish.sole_part.Goals.{in-GoalOver, in_default}

pub returns-clause-none : goal.returns-clause-none
returns-clause-none c =
    elim c.match-head.branch [
      | in-GoalOver w ↦ if_none _ _ _ _ w.result-is w.sole.ensures.none (λ g. no_sole (frame_of c.args.frame) c.args.frame.body.row.list refl g)
      | in_default w ↦ if_none None _ (Unit {0}) _ w.result-is tt (λ g. no_goal (frame_of c.args.frame) w.in_default.not-GoalOver)
    ]
