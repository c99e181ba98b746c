-- The runs are computed.
use Rattle.std.proofs.Common.{◌≡◌, [], Some, refl}
use Rattle.std.specs.Prelude.{codes}
use Rattle.p9_cmean.specs.CRun.{source_run}
use Rattle.p9_cmean.specs.ExampleRuns.{Ends, run}
use Rattle.p9_cmean.specs.ExamplesOfExpressions.{substructure, left_first, greatest, signs, narrowing, steps, overlaid, copied, pointers, null_moved, RunsOfExpressions}

substructure_is : run substructure [] 12 ≡ Some (Ends [] [] [])
unfolding run source_run
substructure_is = refl

left_first_is : run left_first [] 12 ≡ Some (Ends [] [] [])
unfolding run source_run
left_first_is = refl

greatest_is : run greatest [] 12 ≡ Some (Ends [] [] [])
unfolding run source_run
greatest_is = refl

signs_is : run signs [] 12 ≡ Some (Ends [] [] [])
unfolding run source_run
signs_is = refl

narrowing_is : run narrowing [] 12 ≡ Some (Ends [] [] [])
unfolding run source_run
narrowing_is = refl

steps_is : run steps [] 12 ≡ Some (Ends [] [] [])
unfolding run source_run
steps_is = refl

overlaid_is : run overlaid [] 12 ≡ Some (Ends [] [] [])
unfolding run source_run
overlaid_is = refl

copied_is : run copied [] 12 ≡ Some (Ends (codes "A") [] [])
unfolding run source_run
copied_is = refl

pointers_is : run pointers [] 12 ≡ Some (Ends [] [] [])
unfolding run source_run
pointers_is = refl

null_moved_is : run null_moved [] 12 ≡ Some (Ends [] [] [])
unfolding run source_run
null_moved_is = refl

pub runs_of_expressions : RunsOfExpressions
runs_of_expressions = record {
  runs_substructure = substructure_is;
  runs_left_first = left_first_is;
  runs_greatest = greatest_is;
  runs_signs = signs_is;
  runs_narrowing = narrowing_is;
  runs_steps = steps_is;
  runs_overlaid = overlaid_is;
  runs_copied = copied_is;
  runs_pointers = pointers_is;
  runs_null_moved = null_moved_is;
}
