-- Small programs are as the law of typed modules asks.
use Rattle.std.specs.Prelude.{◌≡◌, Bool, true, List, [], ◌∷◌, Option, Some}
use Rattle.p9_lang.specs.Trees.{Syntax}
use Rattle.std.specs.List.{list_all}
use Rattle.p9_lang.specs.Layout.{on_some}
use Rattle.p9_cmean.specs.ExampleRuns.{modules_of}
use Rattle.p9_cmean.specs.ExamplesOfCalls.{arguments, echo, counts, through_pointers, recursion}
use Rattle.p9_cmean.specs.ExamplesOfExpressions.{substructure, left_first, greatest, signs, narrowing, steps, overlaid, copied, pointers, null_moved}
use Rattle.p9_cmean.specs.ExamplesOfFiles.{commons, first_contents, over_address, texts, declared_only, own_names, shared_nodes}
use Rattle.p9_cmean.specs.ExamplesOfFlow.{if_and_else, parts_of_for, cases, out_of_loops, turns}
use Rattle.p9_cmean.specs.ExamplesOfOperators.{constants, bits, short_circuit, places_first, updates, casts, compared, without_values, texts_apart, unevaluated, copies}
use Rattle.p9_cmean.specs.ExamplesOfStatements.{while_loop, do_loop, for_and_switch, blocks, remembers}
use Rattle.p9_cmean.specs.ExamplesOfWordCounter.{printed, counted}
use Rattle.p9_lower.specs.Tests.{source_is_sound}

-- whether the modules of a file or files pass
unfoldable pub are_sound : List (List Syntax) → Option Bool
are_sound files = on_some (modules_of files) (λ modules. Some (list_all source_is_sound modules))

abbrev pub all_pass : List (List (List Syntax)) → Type 0
all_pass [] = Unit {0}
all_pass (files ∷ others) = (are_sound files ≡ Some true) × all_pass others

abbrev pub sound_examples : List (List (List Syntax))
sound_examples =
    arguments ∷ echo ∷ counts ∷ through_pointers ∷ recursion
    ∷ substructure ∷ left_first ∷ greatest ∷ signs ∷ narrowing ∷ steps ∷ overlaid ∷ copied ∷ pointers ∷ null_moved
    ∷ commons ∷ first_contents ∷ over_address ∷ texts ∷ declared_only ∷ own_names ∷ shared_nodes
    ∷ if_and_else ∷ parts_of_for ∷ cases ∷ out_of_loops ∷ turns
    ∷ constants ∷ bits ∷ short_circuit ∷ places_first ∷ updates ∷ casts ∷ compared ∷ without_values ∷ texts_apart ∷ unevaluated ∷ copies
    ∷ while_loop ∷ do_loop ∷ for_and_switch ∷ blocks ∷ remembers
    ∷ printed ∷ counted ∷ []

-- Small programs are as the law asks.
abbrev pub ExamplesAreSound : Type 0
ExamplesAreSound = all_pass sound_examples
