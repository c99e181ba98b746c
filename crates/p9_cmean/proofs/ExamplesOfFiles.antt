-- The runs are computed.
use Rattle.std.proofs.Common.{◌≡◌, true, false, [], Some, refl}
use Rattle.std.specs.Prelude.{codes}
use Rattle.p9_cmean.specs.CRun.{source_run}
use Rattle.p9_cmean.specs.ExampleRuns.{Ends, run, agreement}
use Rattle.p9_cmean.specs.ExamplesOfFiles.{commons, first_contents, over_address, texts, declared_only, own_names, shared_nodes, renamed_nodes, RunsOfFiles}

commons_is : run commons [] 12 ≡ Some (Ends [] [] [])
unfolding run source_run
commons_is = refl

first_contents_is : run first_contents [] 12 ≡ Some (Ends [] [] [])
unfolding run source_run
first_contents_is = refl

over_address_is : run over_address [] 12 ≡ Some (Ends [] [] [])
unfolding run source_run
over_address_is = refl

texts_is : run texts [] 12 ≡ Some (Ends (codes "xyz") (codes "end") [])
unfolding run source_run
texts_is = refl

declared_only_is : run declared_only [] 12 ≡ Some (Ends [] [] [])
unfolding run source_run
declared_only_is = refl

own_names_is : run own_names [] 12 ≡ Some (Ends [] [] [])
unfolding run source_run
own_names_is = refl

shared_nodes_is : run shared_nodes [] 12 ≡ Some (Ends [] [] [])
unfolding run source_run
shared_nodes_is = refl

nodes_agree_is : agreement (codes "first") shared_nodes ≡ Some true
unfolding agreement
nodes_agree_is = refl

renamed_is : agreement (codes "first") renamed_nodes ≡ Some false
unfolding agreement
renamed_is = refl

pub runs_of_files : RunsOfFiles
runs_of_files = record {
  runs_commons = commons_is;
  runs_first_contents = first_contents_is;
  runs_over_address = over_address_is;
  runs_texts = texts_is;
  runs_declared_only = declared_only_is;
  runs_own_names = own_names_is;
  runs_shared_nodes = shared_nodes_is;
  nodes_agree = nodes_agree_is;
  renamed_nodes_disagree = renamed_is;
}
