-- The runs are computed.
use Rattle.std.proofs.Common.{◌≡◌, [], Some, refl}
use Rattle.std.specs.Prelude.{codes}
use Rattle.p9_cmean.specs.declared.Cause.TheVariants as cause
use Rattle.p9_cmean.specs.Cells.{Global}
use Rattle.p9_cmean.specs.CRun.{source_run}
use Rattle.p9_cmean.specs.ExampleRuns.{Ends, InLoop, Waits, IsUndefined, run}
use Rattle.p9_cmean.specs.ExamplesOfFlow.{if_and_else, parts_of_for, cases, out_of_loops, once_and_never, turns, dead_by_break, dead_by_return, RunsOfFlow}

runs_if_and_else_is : run if_and_else [] 2 ≡ Some (Ends [] [] [])
unfolding run source_run
runs_if_and_else_is = refl

runs_parts_of_for_is : run parts_of_for [] 22 ≡ Some (Ends [] [] [])
unfolding run source_run
runs_parts_of_for_is = refl

runs_cases_is : run cases [] 5 ≡ Some (Ends [] [] [])
unfolding run source_run
runs_cases_is = refl

runs_out_of_loops_is : run out_of_loops [] 12 ≡ Some (Ends [] [] [])
unfolding run source_run
runs_out_of_loops_is = refl

runs_once_and_never_is : run once_and_never [] 3 ≡ Some (Ends [] [] [])
unfolding run source_run
runs_once_and_never_is = refl

runs_turns_is : run turns [] 3 ≡ Some (Ends [] (codes "end") [])
unfolding run source_run
runs_turns_is = refl

runs_turns_at_a_call_is : run turns [] 2 ≡ Some (Waits (Global (codes "exits")) [] [])
unfolding run source_run
runs_turns_at_a_call_is = refl

runs_turns_in_a_loop_is : run turns [] 1 ≡ Some (InLoop [] [])
unfolding run source_run
runs_turns_in_a_loop_is = refl

runs_turns_of_none_is : run turns [] 0 ≡ Some (Waits (Global (codes "main")) [] [])
unfolding run source_run
runs_turns_of_none_is = refl

runs_dead_by_break_is : run dead_by_break [] 2 ≡ Some (IsUndefined [] cause.Dead 0 18)
unfolding run source_run
runs_dead_by_break_is = refl

runs_dead_by_return_is : run dead_by_return [] 3 ≡ Some (IsUndefined [] cause.Dead 0 22)
unfolding run source_run
runs_dead_by_return_is = refl

pub runs_of_flow : RunsOfFlow
runs_of_flow = record {
  runs_if_and_else = runs_if_and_else_is;
  runs_parts_of_for = runs_parts_of_for_is;
  runs_cases = runs_cases_is;
  runs_out_of_loops = runs_out_of_loops_is;
  runs_once_and_never = runs_once_and_never_is;
  runs_turns = runs_turns_is;
  runs_turns_at_a_call = runs_turns_at_a_call_is;
  runs_turns_in_a_loop = runs_turns_in_a_loop_is;
  runs_turns_of_none = runs_turns_of_none_is;
  runs_dead_by_break = runs_dead_by_break_is;
  runs_dead_by_return = runs_dead_by_return_is;
}
