-- The small programs compute to what is said of them.
use Rattle.std.proofs.Common.{refl}
use Rattle.p9_tree.specs.TRun.{trun}
use Rattle.p9_tree.specs.Examples.{typed_run, node_counts, RunsOfTrees, SizesOfTrees, ContentsOfTrees}

pub runs_of_trees : RunsOfTrees
unfolding typed_run trun
runs_of_trees = record {
  runs_left_first = refl;
  runs_for_and_switch = refl;
  runs_recursion = refl;
  runs_copied = refl;
  runs_steps = refl;
  runs_compared = refl;
  runs_without_values = refl;
}

pub sizes_of_trees : SizesOfTrees
unfolding node_counts
sizes_of_trees = record {
  nodes_of_left_first = refl;
  nodes_of_for_and_switch = refl;
  nodes_of_recursion = refl;
  nodes_of_copied = refl;
  nodes_of_steps = refl;
  nodes_of_compared = refl;
  nodes_of_without_values = refl;
  charges_of_left_first = refl;
  charges_of_recursion = refl;
  waitings_of_left_first = refl;
  registers = refl;
  effects = refl;
}

pub contents_of_trees : ContentsOfTrees
contents_of_trees = record { written = refl; pointer_by_one = refl; number_by_address = refl; loaded = refl; past_the_end = refl }
