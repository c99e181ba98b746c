-- The runs are computed.
use Rattle.std.proofs.Common.{◌≡◌, [], Some, refl}
use Rattle.std.specs.Prelude.{codes}
use Rattle.p9_cmean.specs.CRun.{source_run}
use Rattle.p9_cmean.specs.ExampleRuns.{Ends, run, bytes_copied}
use Rattle.p9_cmean.specs.ExamplesOfOperators.{constants, bits, short_circuit, places_first, updates, casts, compared, without_values, texts_apart, unevaluated, copies, RunsOfOperators}

runs_constants_is : run constants [] 2 ≡ Some (Ends [] [] [])
unfolding run source_run
runs_constants_is = refl

runs_bits_is : run bits [] 2 ≡ Some (Ends [] [] [])
unfolding run source_run
runs_bits_is = refl

runs_short_circuit_is : run short_circuit [] 4 ≡ Some (Ends [] [] [])
unfolding run source_run
runs_short_circuit_is = refl

runs_places_first_is : run places_first [] 5 ≡ Some (Ends [] [] [])
unfolding run source_run
runs_places_first_is = refl

runs_updates_is : run updates [] 2 ≡ Some (Ends [] [] [])
unfolding run source_run
runs_updates_is = refl

runs_casts_is : run casts [] 3 ≡ Some (Ends [] [] [])
unfolding run source_run
runs_casts_is = refl

runs_compared_is : run compared [] 2 ≡ Some (Ends [] [] [])
unfolding run source_run
runs_compared_is = refl

runs_without_values_is : run without_values [] 5 ≡ Some (Ends [] [] [])
unfolding run source_run
runs_without_values_is = refl

runs_texts_apart_is : run texts_apart [] 3 ≡ Some (Ends (codes "xbc") [] [])
unfolding run source_run
runs_texts_apart_is = refl

runs_unevaluated_is : run unevaluated [] 2 ≡ Some (Ends [] [] [])
unfolding run source_run
runs_unevaluated_is = refl

runs_copies_is : run copies [] 2 ≡ Some (Ends [] [] [])
unfolding run source_run
runs_copies_is = refl

copies_copies_is : bytes_copied copies [] 2 ≡ Some 24
unfolding bytes_copied
copies_copies_is = refl

pub runs_of_operators : RunsOfOperators
runs_of_operators = record {
  runs_constants = runs_constants_is;
  runs_bits = runs_bits_is;
  runs_short_circuit = runs_short_circuit_is;
  runs_places_first = runs_places_first_is;
  runs_updates = runs_updates_is;
  runs_casts = runs_casts_is;
  runs_compared = runs_compared_is;
  runs_without_values = runs_without_values_is;
  runs_texts_apart = runs_texts_apart_is;
  runs_unevaluated = runs_unevaluated_is;
  runs_copies = runs_copies_is;
  copies_copies = copies_copies_is;
}
