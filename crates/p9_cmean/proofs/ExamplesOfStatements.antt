-- The runs are computed.
use Rattle.std.proofs.Common.{◌≡◌, [], Some, refl}
use Rattle.std.specs.Prelude.{codes}
use Rattle.p9_cmean.specs.CRun.{source_run}
use Rattle.p9_cmean.specs.ExampleRuns.{Ends, InLoop, run}
use Rattle.p9_cmean.specs.ExamplesOfStatements.{while_loop, do_loop, for_and_switch, forever, blocks, remembers, returns_main, RunsOfStatements}

while_loop_is : run while_loop [] 12 ≡ Some (Ends (codes "8") [] [])
unfolding run source_run
while_loop_is = refl

do_loop_is : run do_loop [] 12 ≡ Some (Ends (codes "8") [] [])
unfolding run source_run
do_loop_is = refl

for_and_switch_is : run for_and_switch [] 12 ≡ Some (Ends (codes ";") [] [])
unfolding run source_run
for_and_switch_is = refl

forever_is : run forever [] 9 ≡ Some (InLoop (codes "a") [])
unfolding run source_run
forever_is = refl

blocks_is : run blocks [] 12 ≡ Some (Ends [] [] [])
unfolding run source_run
blocks_is = refl

remembers_is : run remembers [] 12 ≡ Some (Ends [] [] [])
unfolding run source_run
remembers_is = refl

returns_main_is : run returns_main [] 1 ≡ Some (Ends [] (codes "main") [])
unfolding run source_run
returns_main_is = refl

pub runs_of_statements : RunsOfStatements
runs_of_statements = record {
  runs_while_loop = while_loop_is;
  runs_do_loop = do_loop_is;
  runs_for_and_switch = for_and_switch_is;
  runs_forever = forever_is;
  runs_blocks = blocks_is;
  runs_remembers = remembers_is;
  runs_returns_main = returns_main_is;
}
