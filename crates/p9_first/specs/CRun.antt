-- The run of modules: their union's `main`, in a number of turns.
use Rattle.std.specs.Prelude.{ℕ, List, [], Option, Some, None, codes, if◌then◌else◌}
use Rattle.p9_first.specs.declared.module.Module.{Module}
use Rattle.p9_first.specs.Trees.{node}
use Rattle.p9_first.specs.Form.{is_among}
use Rattle.p9_first.specs.Modules.{Typed, Source, sources_of, system_names}
use Rattle.p9_first.specs.declared.Cause.TheVariants as cause
use Rattle.p9_first.specs.declared.Place.{Place}
use Rattle.p9_first.specs.Cells.{FunctionName, Global, Local, Value, State}
use Rattle.p9_first.specs.Plays.{Call, Play, Wrong}
use Rattle.p9_first.specs.Turns.{Outcome, Ended, End, Gave, Over, Functions, calls_to}
use Rattle.p9_first.specs.SystemCalls.{system_body}
use Rattle.p9_first.specs.Union.{Defined, definition, first_objects, object_pointer, function_named, text_pointer, base_need, need_of}
use Rattle.p9_first.specs.Expressions.{Surroundings}
use Rattle.p9_first.specs.Statements.{item_body}

-- what stands round the functions of a module
abbrev pub surroundings : List Source → (owner : ℕ) → Surroundings
surroundings modules owner = record {
  owner = owner;
  object = object_pointer modules owner;
  function = function_named modules owner;
  static = text_pointer modules owner;
}

-- a function that is defined does what its body does
abbrev pub body_of : List Source → (turns : ℕ) → Option Defined → Call → State → Play Value
body_of modules turns (Some code) call s = item_body turns (surroundings modules code.owner) code.item call.place s
body_of modules turns None call s = Wrong cause.WrongCall call.place s

-- the functions of the modules, and the system calls by their names
abbrev pub function_body : List Source → (turns : ℕ) → Call → State → Play Value
function_body modules turns call s = by call.function
  where
    by : FunctionName → Play Value
    by (Global name) =
        if is_among system_names name then system_body name call s
        else body_of modules turns (definition modules (Global name)) call s
    by (Local owner name) = body_of modules turns (definition modules (Local owner name)) call s

-- a system call needs its room and no more
abbrev pub function_need : List Source → FunctionName → ℕ
function_need modules (Global name) =
    if is_among system_names name then base_need else need_of (definition modules (Global name))
function_need modules (Local owner name) = need_of (definition modules (Local owner name))

abbrev pub functions_of : List Source → Functions
functions_of modules = record { body = function_body modules; need = function_need modules }

-- The start calls `main`: it stands at `main`'s own item, and its own need is active.

abbrev pub main_name : FunctionName
main_name = Global (codes "main")

abbrev pub item_place : Option Defined → Place
item_place (Some code) = number_in code.owner code.item
  where
    number_in : ℕ → Typed → Place
    number_in owner (node k label parts) = record { «module» = owner; node = label.number }
item_place None = record { «module» = 0; node = 0 }

abbrev pub main_call : List Source → Call
main_call modules = record { function = main_name; arguments = []; place = item_place (definition modules main_name) }

abbrev pub first_state : List Source → (input : List ℕ) → State
first_state modules input = record { objects = first_objects modules; input = input; output = [] }

abbrev pub run_of : List Source → (input : List ℕ) → (turns : ℕ) → End
run_of modules input turns =
    calls_to turns (functions_of modules) base_need turns 0 (main_call modules) (first_state modules input)

-- where `main` returns, the run has ended with the text `main`
abbrev pub outcome_of : End → Outcome
outcome_of (Gave value s turns copied) = Ended s.output (codes "main")
outcome_of (Over outcome copied) = outcome

abbrev pub copied_of : End → ℕ
copied_of (Gave value s turns copied) = copied
copied_of (Over outcome copied) = copied

-- the run of modules that are plain data
unfoldable pub source_run : List Source → (input : List ℕ) → (turns : ℕ) → Outcome
source_run modules input turns = outcome_of (run_of modules input turns)

-- what the modules come to with this input in so many turns
unfoldable pub crun : List Module → (input : List ℕ) → (turns : ℕ) → Outcome
crun modules input turns = source_run (sources_of modules) input turns

-- how many bytes the run's structure copies move
unfoldable pub copied : List Module → (input : List ℕ) → (turns : ℕ) → ℕ
copied modules input turns = copied_of (run_of (sources_of modules) input turns)
