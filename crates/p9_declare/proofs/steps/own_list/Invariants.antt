use Rattle.std.proofs.Common.{◌≡◌, length}
use Rattle.p9_lang.specs.Declarators.{own_list}
use Rattle.p9_declare.specs.Told.{steps_of}
use Rattle.p9_declare.proofs.steps.own_list.Given as goal

abbrev pub invariant-steps : goal.invariant-steps
invariant-steps l = own_list (steps_of l.rest) ≡ own_list (steps_of l.steps)

abbrev pub decreases-steps : goal.decreases-steps
decreases-steps l = length l.rest
