-- Runs in which functions do what their typed trees mean. The objects and all else of the union are
-- those of the sources.
use Rattle.std.specs.Prelude.{ℕ, suc, ◌+◌, ◌*◌, ◌++◌, if◌then◌else◌, List, [], ◌∷◌, map, flat_map, sum, slice_get, Option, Some, None}
use Rattle.p9_lang.specs.Conversions.{is_function}
use Rattle.p9_lang.specs.Layout.{rounded}
use Rattle.p9_lang.specs.Modules.{Source}
use Rattle.p9_lang.specs.Symbols.{Symbol, symbols}
use Rattle.p9_tree.specs.Meaning.{Environment, Function, function_body}
use Rattle.p9_tree.specs.Modules.{TypedModule}
use Rattle.p9_cmean.specs.Cells.{FunctionName, Global, Local, Pointer, ToFunction, Value, State}
use Rattle.p9_cmean.specs.Plays.{Call, Play, NoMeaning}
use Rattle.p9_cmean.specs.Turns.{Outcome, End, Functions, calls_to, outcome_of}
use Rattle.p9_cmean.specs.SystemCalls.{SystemCall, system_call, system_body}
use Rattle.p9_cmean.specs.Union.{FunctionEntry, Union, union_of, entries_of, functions_in, function_named, object_number, static_number, base_need}
use Rattle.p9_cmean.specs.Union as union
use Rattle.p9_cmean.specs.FirstContents.{into}
use Rattle.p9_cmean.specs.CRun.{main_call, first_state, return_text}

-- WHAT SYMBOLS ARE: trees name the symbols of their module by numbers

abbrev pub object_pointer : Union → (owner : ℕ) → Symbol → (offset : ℕ) → Option Pointer
object_pointer program owner symbol offset = by symbol.static
  where
    by : Option ℕ → Option Pointer
    by None = into (object_number program owner symbol.name) offset
    by (Some number) = into (static_number program owner number) offset

abbrev pub symbol_pointer : Union → (owner : ℕ) → Option Symbol → (offset : ℕ) → Option Pointer
symbol_pointer program owner None offset = None
symbol_pointer program owner (Some symbol) offset =
    if is_function symbol.type then Some (ToFunction (function_named program owner symbol.name))
    else object_pointer program owner symbol offset

abbrev pub symbols_at : Option Source → List Symbol
symbols_at None = []
symbols_at (Some m) = symbols m

-- what stands round the functions of the module with this number
abbrev pub environment : Union → (owner : ℕ) → Environment
environment program owner = record {
  symbol = λ number offset. symbol_pointer program owner (slice_get (symbols_at (slice_get program.modules owner)) number) offset;
  automatics = [];
  sizes = [];
}

-- FUNCTIONS, with their typed trees

pub record Coded : Type 0 where
  pub entry : FunctionEntry
  pub typed : Function

-- a module's functions stand in the order of its symbols, typed or not
abbrev pub coded_row : List FunctionEntry → List Function → List Coded
coded_row [] fs = []
coded_row (e ∷ es) [] = []
coded_row (e ∷ es) (f ∷ fs) = record { entry = e; typed = f } ∷ coded_row es fs

abbrev pub functions_at : (owner : ℕ) → Source → List FunctionEntry
functions_at owner m = flat_map functions_in (entries_of owner m.tags (symbols m))

-- of the modules from this number on
abbrev pub coded_from : (owner : ℕ) → List Source → List TypedModule → List Coded
coded_from owner [] typed = []
coded_from owner (m ∷ ms) [] = []
coded_from owner (m ∷ ms) (t ∷ ts) = coded_row (functions_at owner m) t.functions ++ coded_from (suc owner) ms ts

abbrev pub found_coded : FunctionName → List Coded → Option Coded
found_coded function [] = None
found_coded function (c ∷ cs) = if union.is_function function c.entry then Some c else found_coded function cs

pub data Callee : Type 0 where
  System : (call : SystemCall) → Callee
  Defined : (coded : Coded) → Callee
  NoCallee : Callee

abbrev pub defined : Option Coded → Callee
defined None = NoCallee
defined (Some coded) = Defined coded

abbrev pub system_or : Option SystemCall → Callee → Callee
system_or None other = other
system_or (Some call) other = System call

abbrev pub callee : List Coded → FunctionName → Callee
callee coded (Global name) = system_or (system_call name) (defined (found_coded (Global name) coded))
callee coded (Local owner name) = defined (found_coded (Local owner name) coded)

abbrev pub need_of : Function → ℕ
need_of f = base_need + 8 * f.nodes + sum (map (λ size. rounded size 4) f.sizes)

abbrev pub callee_body : Union → (turns : ℕ) → Callee → Call → State → Play Value
callee_body program turns (System system) call s = system_body system call s
callee_body program turns (Defined coded) call s = function_body turns (environment program coded.entry.owner) coded.typed call s
callee_body program turns NoCallee call s = NoMeaning call.place s

abbrev pub callee_need : Callee → ℕ
callee_need (System call) = base_need
callee_need (Defined coded) = need_of coded.typed
callee_need NoCallee = base_need

abbrev pub functions_of : Union → List Coded → Functions
functions_of program coded = record {
  body = λ turns call s. callee_body program turns (callee coded call.function) call s;
  need = λ function. callee_need (callee coded function);
}

-- THE RUN of sources by their typed modules

abbrev pub run_of : Union → List Coded → (input : List ℕ) → (turns : ℕ) → End
run_of program coded input turns =
    calls_to turns (functions_of program coded) base_need turns 0 (main_call program) (first_state program input)

unfoldable pub trun : List Source → List TypedModule → (input : List ℕ) → (turns : ℕ) → Outcome
trun modules typed input turns = outcome_of return_text (run_of (union_of modules) (coded_from 0 modules typed) input turns)
