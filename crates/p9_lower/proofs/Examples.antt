-- The small programs compute to what is said of them.
use Rattle.std.proofs.Common.{refl}
use Rattle.p9_cmean.specs.CRun.{source_run}
use Rattle.p9_cmean.specs.ExampleRuns.{run}
use Rattle.p9_tree.specs.TRun.{trun}
use Rattle.p9_lower.specs.Examples.{lowered_run, functions_of, RunsOfLowered, TreesOfLowered}

pub runs_of_lowered : RunsOfLowered
unfolding lowered_run run source_run trun
runs_of_lowered = record {
  runs_arguments = refl;
  runs_echo = refl;
  runs_echo_waits = refl;
  runs_counts = refl;
  runs_through_pointers = refl;
  runs_recursion = refl;
  runs_recursion_out = refl;
  runs_just_fits = refl;
  runs_call_fits = refl;
  runs_substructure = refl;
  runs_left_first = refl;
  runs_greatest = refl;
  runs_signs = refl;
  runs_narrowing = refl;
  runs_steps = refl;
  runs_overlaid = refl;
  runs_copied = refl;
  runs_pointers = refl;
  runs_null_moved = refl;
  runs_commons = refl;
  runs_first_contents = refl;
  runs_over_address = refl;
  runs_texts = refl;
  runs_declared_only = refl;
  runs_own_names = refl;
  runs_shared_nodes = refl;
  runs_if_and_else = refl;
  runs_parts_of_for = refl;
  runs_cases = refl;
  runs_out_of_loops = refl;
  runs_once_and_never = refl;
  runs_turns = refl;
  runs_turns_at_a_call = refl;
  runs_turns_in_a_loop = refl;
  runs_turns_of_none = refl;
  runs_unused = refl;
  runs_constants = refl;
  runs_bits = refl;
  runs_short_circuit = refl;
  runs_places_first = refl;
  runs_updates = refl;
  runs_casts = refl;
  runs_compared = refl;
  runs_without_values = refl;
  runs_texts_apart = refl;
  runs_unevaluated = refl;
  runs_copies = refl;
  runs_while_loop = refl;
  runs_do_loop = refl;
  runs_for_and_switch = refl;
  runs_forever = refl;
  runs_blocks = refl;
  runs_remembers = refl;
  runs_returns_main = refl;
  runs_printed = refl;
  runs_counted = refl;
}

pub trees_of_lowered : TreesOfLowered
unfolding functions_of
trees_of_lowered = record {
  trees_of_left_first = refl;
  trees_of_copied = refl;
  trees_of_steps = refl;
  trees_of_without_values = refl;
}
