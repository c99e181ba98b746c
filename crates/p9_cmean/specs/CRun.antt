-- The run of modules: their union's `main`, in a number of turns.
use Rattle.std.specs.Prelude.{ℕ, Bool, false, List, [], ◌∷◌, Option, Some, None, codes}
use Rattle.p9_lang.specs.declared.module.Module.{Module}
use Rattle.p9_lang.specs.Types.{TypeTree, Void, Tags}
use Rattle.p9_lang.specs.Agreement.{agrees}
use Rattle.p9_lang.specs.Modules.{Source, sources_of}
use Rattle.p9_lang.specs.Scopes.{system_type}
use Rattle.p9_cmean.specs.Cells.{FunctionName, Global, Local, Pointer, Into, Value, Word, Address, State}
use Rattle.p9_cmean.specs.Plays.{Call, Play, NoMeaning}
use Rattle.p9_cmean.specs.Turns.{Outcome, End, Functions, calls_to, outcome_of, copied_of}
use Rattle.p9_cmean.specs.SystemCalls.{SystemCall, system_call, system_body}
use Rattle.p9_cmean.specs.Union.{FunctionEntry, Union, union_of, object_number, static_number, function_named, found_function, parameter_types, base_need}
use Rattle.p9_cmean.specs.FirstContents.{first_objects, arguments_number}
use Rattle.p9_cmean.specs.Expressions.{Surroundings}
use Rattle.p9_cmean.specs.Statements.{function_body}

-- FUNCTIONS: those of the modules, and the system calls by their names

pub data Callee : Type 0 where
  System : (call : SystemCall) → Callee
  Defined : (entry : FunctionEntry) → Callee
  NoCallee : Callee

abbrev pub defined : Option FunctionEntry → Callee
defined None = NoCallee
defined (Some entry) = Defined entry

abbrev pub system_or : Option SystemCall → Callee → Callee
system_or None other = other
system_or (Some call) other = System call

abbrev pub callee : Union → FunctionName → Callee
callee union (Global name) = system_or (system_call name) (defined (found_function (Global name) union.functions))
callee union (Local owner name) = defined (found_function (Local owner name) union.functions)

-- whether a function is there, with a type that agrees with one over other structures
abbrev pub callee_has_type : Tags → TypeTree → (name : List ℕ) → Callee → Bool
callee_has_type tags type name (System call) = agrees tags [] type (system_type name)
callee_has_type tags type name (Defined entry) = agrees tags entry.tags type entry.definition.name.type
callee_has_type tags type name NoCallee = false

abbrev pub plain_name : FunctionName → List ℕ
plain_name (Global name) = name
plain_name (Local owner name) = name

abbrev pub has_type_in : Union → Tags → FunctionName → TypeTree → Bool
has_type_in union tags function type = callee_has_type tags type (plain_name function) (callee union function)

-- what stands round the functions of a module
abbrev pub start_of : Option ℕ → Option Pointer
start_of None = None
start_of (Some object) = Some (Into object 0)

abbrev pub surroundings : Union → (owner : ℕ) → Tags → Surroundings
surroundings union owner tags = record {
  owner = owner;
  tags = tags;
  object = λ name. start_of (object_number union owner name);
  function = λ name. function_named union owner name;
  static = λ number. start_of (static_number union owner number);
  has_type = has_type_in union tags;
  automatics = [];
  result = Void;
}

-- A call names a function that is there, by `has_type`; only `main` is called without that.
abbrev pub callee_body : Union → (turns : ℕ) → Callee → Call → State → Play Value
callee_body union turns (System system) call s = system_body system call s
callee_body union turns (Defined entry) call s = function_body turns (surroundings union entry.owner entry.tags) entry.definition call s
callee_body union turns NoCallee call s = NoMeaning call.place s

-- a system call needs its room and no more
abbrev pub callee_need : Callee → ℕ
callee_need (System call) = base_need
callee_need (Defined entry) = entry.need
callee_need NoCallee = base_need

abbrev pub functions_of : Union → Functions
functions_of union = record {
  body = λ turns call s. callee_body union turns (callee union call.function) call s;
  need = λ function. callee_need (callee union function);
}

-- THE START calls `main`. It stands at `main`'s own item, and its own need is active. A `main` with
-- parameters gets the number of arguments, which is 1, and their list.

abbrev pub main_name : FunctionName
main_name = Global (codes "main")

abbrev pub main_arguments : Union → List TypeTree → List Value
main_arguments union [] = []
main_arguments union (first ∷ others) = Word 1 ∷ Address (Into (arguments_number union) 0) ∷ []

abbrev pub call_of_main : Union → Callee → Call
call_of_main union (Defined entry) = record {
  function = main_name;
  arguments = main_arguments union (parameter_types entry.definition.name.type);
  place = record { «module» = entry.owner; node = entry.definition.label.number };
}
call_of_main union (System call) = record { function = main_name; arguments = []; place = record { «module» = 0; node = 0 } }
call_of_main union NoCallee = record { function = main_name; arguments = []; place = record { «module» = 0; node = 0 } }

abbrev pub main_call : Union → Call
main_call union = call_of_main union (callee union main_name)

abbrev pub first_state : Union → (input : List ℕ) → State
first_state union input = record { objects = first_objects union; input = input; output = [] }

abbrev pub run_of : Union → (input : List ℕ) → (turns : ℕ) → End
run_of union input turns =
    calls_to turns (functions_of union) base_need turns 0 (main_call union) (first_state union input)

-- where `main` returns, the run has ended with this text
abbrev pub return_text : List ℕ
return_text = codes "main"

-- the run of modules that are plain data
unfoldable pub source_run : List Source → (input : List ℕ) → (turns : ℕ) → Outcome
source_run modules input turns = outcome_of return_text (run_of (union_of modules) input turns)

-- what the modules come to with this input in so many turns
unfoldable pub crun : List Module → (input : List ℕ) → (turns : ℕ) → Outcome
crun modules input turns = source_run (sources_of modules) input turns

-- how many bytes the run's structure copies move
unfoldable pub copied : List Module → (input : List ℕ) → (turns : ℕ) → ℕ
copied modules input turns = copied_of (run_of (union_of (sources_of modules)) input turns)
