use Rattle.std.proofs.Common.{◌≡◌, length}
use Rattle.std.specs.List.{list_all}
use Rattle.p9_lang.specs.Declarators.{makes_no_type}
use Rattle.p9_declare.specs.Told.{steps_of}
use Rattle.p9_declare.proofs.steps.make_no_type.Given as goal

abbrev pub invariant-steps : goal.invariant-steps
invariant-steps l = list_all makes_no_type (steps_of l.rest) ≡ list_all makes_no_type (steps_of l.steps)

abbrev pub decreases-steps : goal.decreases-steps
decreases-steps l = length l.rest
