use Rattle.std.proofs.Common.{sym, ap, ◌∙◌}
use Rattle.p9_tree_build.specs.Machines.{frame_of, stack_of}
use Rattle.p9_tree_reader.specs.Reading.{last_of}
use Rattle.p9_decl.specs.Finishing.{is_goal}
use Rattle.p9_decl.proofs.Finding.{not_below, not_open}
use Rattle.p9_decl.proofs.finish.declaration.Goals as goal

pub returns-in-true-is_goal : goal.returns-in-true-is_goal
returns-in-true-is_goal c =
    not_open (stack_of c.args.reader.stack) (stack_of c.pop.new.self) (frame_of c.in-Some-pop.frame) c.args.reader.scope.levels c.args.reader.at (last_of c.args.reader.last)
    (ap stack_of c.in-Some-pop.ensures) (ap last_of c.in-None.is) c.in-None-function.ensures.none

pub returns : goal.returns
returns c =
    not_below (stack_of c.args.reader.stack) (stack_of c.pop.new.self) (frame_of c.in-Some-pop.frame) c.args.reader.scope.levels c.args.reader.at (last_of c.args.reader.last)
    (ap stack_of c.in-Some-pop.ensures) (ap (λ s. is_goal (stack_of s)) c.as_slice-in-Some-pop.ensures ∙ sym c.is_goal-in-Some-pop.ensures ∙ c.in-false-is_goal.is) (ap last_of c.in-None.is)
