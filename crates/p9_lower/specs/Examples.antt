-- Small programs by the typed trees that are made of them: their runs come to what the runs of the
-- sources come to, and some of the trees.
use Rattle.std.specs.Prelude.{◌≡◌, ℕ, List, [], ◌∷◌, ◌++◌, map, Option, Some, codes}
use Rattle.p9_lang.specs.Trees.{Syntax}
use Rattle.p9_lang.specs.Layout.{on_some}
use Rattle.p9_lang.specs.Modules.{Source}
use Rattle.p9_cmean.specs.ExampleRuns.{Seen, seen, modules_of, run}
use Rattle.p9_cmean.specs.ExamplesOfCalls.{arguments, echo, echo_waits, counts, through_pointers, recursion, recursion_out, just_fits, call_fits}
use Rattle.p9_cmean.specs.ExamplesOfExpressions.{substructure, left_first, greatest, signs, narrowing, steps, overlaid, copied, pointers, null_moved}
use Rattle.p9_cmean.specs.ExamplesOfFiles.{commons, first_contents, over_address, texts, declared_only, own_names, shared_nodes}
use Rattle.p9_cmean.specs.ExamplesOfFlow.{if_and_else, parts_of_for, cases, out_of_loops, once_and_never, turns}
use Rattle.p9_cmean.specs.ExamplesOfMissing.{unused}
use Rattle.p9_cmean.specs.ExamplesOfOperators.{constants, bits, short_circuit, places_first, updates, casts, compared, without_values, texts_apart, unevaluated, copies}
use Rattle.p9_cmean.specs.ExamplesOfStatements.{while_loop, do_loop, for_and_switch, forever, blocks, remembers, returns_main}
use Rattle.p9_cmean.specs.ExamplesOfWordCounter.{printed, counted}
use Rattle.p9_tree.specs.Meaning.{Function}
use Rattle.p9_tree.specs.TRun.{trun}
use Rattle.p9_tree.specs.Examples.{left_first_trees, copied_trees, steps_trees, without_values_trees}
use Rattle.p9_lower.specs.Modules.{lowered}

-- what is seen of the run of files by their typed trees
unfoldable pub lowered_run : List (List Syntax) → (input : List ℕ) → (turns : ℕ) → Option Seen
lowered_run files input turns = on_some (modules_of files) (λ modules. Some (seen (trun modules (map lowered modules) input turns)))

abbrev pub functions_in : List Source → List Function
functions_in [] = []
functions_in (m ∷ ms) = (lowered m).functions ++ functions_in ms

-- the functions of files
unfoldable pub functions_of : List (List Syntax) → Option (List Function)
functions_of files = on_some (modules_of files) (λ modules. Some (functions_in modules))

pub record RunsOfLowered : Type 0 where
  pub runs_arguments : lowered_run arguments [] 12 ≡ run arguments [] 12
  pub runs_echo : lowered_run echo (codes "abc") 7 ≡ run echo (codes "abc") 7
  pub runs_echo_waits : lowered_run echo_waits (codes "abc") 5 ≡ run echo_waits (codes "abc") 5
  pub runs_counts : lowered_run counts (codes "hi") 10 ≡ run counts (codes "hi") 10
  pub runs_through_pointers : lowered_run through_pointers [] 12 ≡ run through_pointers [] 12
  pub runs_recursion : lowered_run recursion [] 6 ≡ run recursion [] 6
  pub runs_recursion_out : lowered_run recursion_out [] 3 ≡ run recursion_out [] 3
  pub runs_just_fits : lowered_run just_fits [] 1 ≡ run just_fits [] 1
  pub runs_call_fits : lowered_run call_fits [] 9 ≡ run call_fits [] 9
  pub runs_substructure : lowered_run substructure [] 12 ≡ run substructure [] 12
  pub runs_left_first : lowered_run left_first [] 12 ≡ run left_first [] 12
  pub runs_greatest : lowered_run greatest [] 12 ≡ run greatest [] 12
  pub runs_signs : lowered_run signs [] 12 ≡ run signs [] 12
  pub runs_narrowing : lowered_run narrowing [] 12 ≡ run narrowing [] 12
  pub runs_steps : lowered_run steps [] 12 ≡ run steps [] 12
  pub runs_overlaid : lowered_run overlaid [] 12 ≡ run overlaid [] 12
  pub runs_copied : lowered_run copied [] 12 ≡ run copied [] 12
  pub runs_pointers : lowered_run pointers [] 12 ≡ run pointers [] 12
  pub runs_null_moved : lowered_run null_moved [] 12 ≡ run null_moved [] 12
  pub runs_commons : lowered_run commons [] 12 ≡ run commons [] 12
  pub runs_first_contents : lowered_run first_contents [] 12 ≡ run first_contents [] 12
  pub runs_over_address : lowered_run over_address [] 12 ≡ run over_address [] 12
  pub runs_texts : lowered_run texts [] 12 ≡ run texts [] 12
  pub runs_declared_only : lowered_run declared_only [] 12 ≡ run declared_only [] 12
  pub runs_own_names : lowered_run own_names [] 12 ≡ run own_names [] 12
  pub runs_shared_nodes : lowered_run shared_nodes [] 12 ≡ run shared_nodes [] 12
  pub runs_if_and_else : lowered_run if_and_else [] 2 ≡ run if_and_else [] 2
  pub runs_parts_of_for : lowered_run parts_of_for [] 22 ≡ run parts_of_for [] 22
  pub runs_cases : lowered_run cases [] 5 ≡ run cases [] 5
  pub runs_out_of_loops : lowered_run out_of_loops [] 12 ≡ run out_of_loops [] 12
  pub runs_once_and_never : lowered_run once_and_never [] 3 ≡ run once_and_never [] 3
  pub runs_turns : lowered_run turns [] 3 ≡ run turns [] 3
  pub runs_turns_at_a_call : lowered_run turns [] 2 ≡ run turns [] 2
  pub runs_turns_in_a_loop : lowered_run turns [] 1 ≡ run turns [] 1
  pub runs_turns_of_none : lowered_run turns [] 0 ≡ run turns [] 0
  pub runs_unused : lowered_run unused [] 5 ≡ run unused [] 5
  pub runs_constants : lowered_run constants [] 2 ≡ run constants [] 2
  pub runs_bits : lowered_run bits [] 2 ≡ run bits [] 2
  pub runs_short_circuit : lowered_run short_circuit [] 4 ≡ run short_circuit [] 4
  pub runs_places_first : lowered_run places_first [] 5 ≡ run places_first [] 5
  pub runs_updates : lowered_run updates [] 2 ≡ run updates [] 2
  pub runs_casts : lowered_run casts [] 3 ≡ run casts [] 3
  pub runs_compared : lowered_run compared [] 2 ≡ run compared [] 2
  pub runs_without_values : lowered_run without_values [] 5 ≡ run without_values [] 5
  pub runs_texts_apart : lowered_run texts_apart [] 3 ≡ run texts_apart [] 3
  pub runs_unevaluated : lowered_run unevaluated [] 2 ≡ run unevaluated [] 2
  pub runs_copies : lowered_run copies [] 2 ≡ run copies [] 2
  pub runs_while_loop : lowered_run while_loop [] 12 ≡ run while_loop [] 12
  pub runs_do_loop : lowered_run do_loop [] 12 ≡ run do_loop [] 12
  pub runs_for_and_switch : lowered_run for_and_switch [] 12 ≡ run for_and_switch [] 12
  pub runs_forever : lowered_run forever [] 9 ≡ run forever [] 9
  pub runs_blocks : lowered_run blocks [] 12 ≡ run blocks [] 12
  pub runs_remembers : lowered_run remembers [] 12 ≡ run remembers [] 12
  pub runs_returns_main : lowered_run returns_main [] 1 ≡ run returns_main [] 1
  pub runs_printed : lowered_run printed [] 12 ≡ run printed [] 12
  pub runs_counted : lowered_run counted (97 ∷ 32 ∷ 98 ∷ 99 ∷ 10 ∷ []) 12 ≡ run counted (97 ∷ 32 ∷ 98 ∷ 99 ∷ 10 ∷ []) 12

pub record TreesOfLowered : Type 0 where
  pub trees_of_left_first : functions_of left_first ≡ Some left_first_trees
  pub trees_of_copied : functions_of copied ≡ Some copied_trees
  pub trees_of_steps : functions_of steps ≡ Some steps_trees
  pub trees_of_without_values : functions_of without_values ≡ Some without_values_trees
