-- The runs are computed.
use Rattle.std.proofs.Common.{◌≡◌, [], ◌∷◌, Some, refl}
use Rattle.p9_cmean.specs.CRun.{source_run}
use Rattle.p9_cmean.specs.ExampleRuns.{Ends, run}
use Rattle.p9_cmean.specs.ExamplesOfWordCounter.{printed, counted, RunsOfWordCounter}

printed_is : run printed [] 12 ≡ Some (Ends (51 ∷ 48 ∷ 53 ∷ 32 ∷ 48 ∷ 10 ∷ []) [] [])
unfolding run source_run
printed_is = refl

counted_is : run counted (97 ∷ 32 ∷ 98 ∷ 99 ∷ 10 ∷ []) 12 ≡ Some (Ends [] [] [])
unfolding run source_run
counted_is = refl

pub runs_of_word_counter : RunsOfWordCounter
runs_of_word_counter = record {
  runs_printed = printed_is;
  runs_counted = counted_is;
}
