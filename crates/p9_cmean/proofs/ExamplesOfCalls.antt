-- The runs are computed.
use Rattle.std.proofs.Common.{◌≡◌, [], Some, refl}
use Rattle.std.specs.Prelude.{codes}
use Rattle.p9_cmean.specs.Cells.{Global}
use Rattle.p9_cmean.specs.CRun.{source_run}
use Rattle.p9_cmean.specs.ExampleRuns.{Ends, Waits, IsDeep, run}
use Rattle.p9_cmean.specs.ExamplesOfCalls.{arguments, echo, echo_waits, counts, through_pointers, recursion, recursion_out, just_fits, too_deep, call_fits, call_too_deep, RunsOfCalls}

arguments_is : run arguments [] 12 ≡ Some (Ends (codes "v.out") (codes "v.out") [])
unfolding run source_run
arguments_is = refl

echo_is : run echo (codes "abc") 7 ≡ Some (Ends (codes "ab") [] [])
unfolding run source_run
echo_is = refl

echo_waits_is : run echo_waits (codes "abc") 5 ≡ Some (Waits (Global (codes "read")) (codes "ab") (codes "c"))
unfolding run source_run
echo_waits_is = refl

counts_is : run counts (codes "hi") 10 ≡ Some (Ends [] (codes "hi") [])
unfolding run source_run
counts_is = refl

through_pointers_is : run through_pointers [] 12 ≡ Some (Ends [] [] [])
unfolding run source_run
through_pointers_is = refl

recursion_is : run recursion [] 6 ≡ Some (Ends [] [] [])
unfolding run source_run
recursion_is = refl

recursion_out_is : run recursion_out [] 3 ≡ Some (Waits (Global (codes "sum")) [] [])
unfolding run source_run
recursion_out_is = refl

just_fits_is : run just_fits [] 1 ≡ Some (Ends [] (codes "main") [])
unfolding run source_run
just_fits_is = refl

too_deep_is : run too_deep [] 1 ≡ Some (IsDeep [] 0 10)
unfolding run source_run
too_deep_is = refl

call_fits_is : run call_fits [] 9 ≡ Some (Ends (codes "a") [] [])
unfolding run source_run
call_fits_is = refl

call_too_deep_is : run call_too_deep [] 9 ≡ Some (IsDeep [] 0 13)
unfolding run source_run
call_too_deep_is = refl

pub runs_of_calls : RunsOfCalls
runs_of_calls = record {
  runs_arguments = arguments_is;
  runs_echo = echo_is;
  runs_echo_waits = echo_waits_is;
  runs_counts = counts_is;
  runs_through_pointers = through_pointers_is;
  runs_recursion = recursion_is;
  runs_recursion_out = recursion_out_is;
  runs_just_fits = just_fits_is;
  runs_too_deep = too_deep_is;
  runs_call_fits = call_fits_is;
  runs_call_too_deep = call_too_deep_is;
}
