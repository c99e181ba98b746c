-- The start: it calls `main`, and where that returns it exits with the text `main`.
use Rattle.std.specs.Prelude.{◌≡◌, ◌≢◌, ◌<◌, ◌≤◌, ℕ, suc, ◌+◌, ◌*◌, ◌%◌, Some, None, List, [], ◌∷◌, ◌++◌, length, slice_get, slice_index}
use Rattle.p9_base.specs.declared.halt.Ending.TheVariants.{Running}
use Rattle.p9_base.specs.declared.order.ByteOrder.TheVariants.{Big}
use Rattle.p9_base.specs.Words.{IsWord}
use Rattle.p9_base.specs.Core.{text_start, stack_start, stack_end, low_end, reg, read_byte}
use Rattle.p9_base.specs.SystemCalls.{State, exit_text}
use Rattle.p9_base.specs.Holding.{HoldsWords, AreBytes}
use Rattle.p9_abs.specs.declared.instructions.TextDef.{TextDef}
use Rattle.p9_abs.specs.BuiltIn.{start_code}
use Rattle.p9_abs.specs.Runs.{Routine, Addresses, Run, Status, Going, Gone, routine_at, arun_of}
use Rattle.p9_abs.specs.Programs.{static_base}
use Rattle.p9_cmean.specs.Cells.{FunctionName, Object}
use Rattle.p9_cmean.specs.Turns.{Outcome, Ended, Out, Undefined, Deep, NoOutcome, End, outcome_of, copied_of}
use Rattle.p9_cmean.specs.SystemCalls.{Exits}
use Rattle.p9_cmean.specs.Union.{Union}
use Rattle.p9_cmean.specs.FirstContents.{first_objects, arguments_number}
use Rattle.p9_cmean.specs.CRun.{callee, NoCallee, functions_of, main_name, run_of, return_text}
use Rattle.p9_sim.specs.Memory.{Map, HasAddress, Ground, StandCells, Owner}
use Rattle.p9_sim.specs.Matching.{IsLaidOut}
use Rattle.p9_compose.specs.Calling.{HasCode}
use Rattle.p9_systems.specs.Systems.{system_def}

-- THE CODE

abbrev pub start_def : TextDef
start_def = record { frame = 8; code = start_code }

-- The first function is the start. It names the list of arguments, `main`, the exit text and `exits`,
-- which have these addresses; that of `exits` is of the built-in module's code.
pub record HasStart (p : Addresses) (rs : List Routine) (arguments main text : ℕ) : Type 0 where
  pub unit : ℕ
  pub symbol : ℕ
  pub first : slice_get rs 0 ≡ Some (record { unit = unit; symbol = symbol; def = start_def })
  pub placed : (k : ℕ) → k < length start_code → IsWord (p.instruction 0 k)
  pub names_arguments : p.symbol unit 1 ≡ arguments
  pub names_main : p.symbol unit 2 ≡ main
  pub names_text : p.symbol unit 3 ≡ text
  pub exits_number : ℕ
  pub exits_unit : ℕ
  pub exits_symbol : ℕ
  pub exits_found : routine_at p rs 0 (p.symbol unit 4) ≡ Some exits_number
  pub exits_is : slice_get rs exits_number ≡ Some (record { unit = exits_unit; symbol = exits_symbol; def = system_def Exits })
  pub exits_placed : (k : ℕ) → k < 4 → IsWord (p.instruction exits_number k)

-- THE STATE

-- the bytes of the text `main`
abbrev pub exit_bytes : List ℕ
exit_bytes = return_text ++ 0 ∷ []

-- the number of the object that is the exit text
abbrev pub exit_number : Union → ℕ
exit_number union = suc (arguments_number union)

-- Before the start's first instruction, R29 is the stack's end, and the first objects of C stand in
-- the data, where the map has them. The exit text stands there too; no object has a byte of it, since
-- the map has no address of it: C has no way to it.
pub record StandsFirst (g : Ground) (m : Map) (union : Union) (arguments text : ℕ) (input : List ℕ) (x : State) : Type 0 where
  -- objects
  pub count : length m ≡ length (first_objects union)
  pub statics : (object start : ℕ) → slice_get g.statics object ≡ Some start → HasAddress m object start
  pub fourfold : (object start : ℕ) → HasAddress m object start → start % 4 ≡ 0
  pub cells : (number start : ℕ) (object : Object) → slice_get (first_objects union) number ≡ Some object → HasAddress m number start
      → StandCells g m object.cells (read_byte x.core) start
  pub in_data : (byte : ℕ) → Owner m (first_objects union) byte → (g.data_start ≤ byte) × (byte < low_end x.core)
  pub disjoint : (byte : ℕ) (a b : Owner m (first_objects union) byte) → a.number ≡ b.number
  -- the built-in module's
  pub has_arguments : HasAddress m (arguments_number union) arguments
  pub has_no_text : slice_get m (exit_number union) ≡ Some None
  pub text_bytes : (i : ℕ) → i < length exit_bytes → read_byte x.core (text + i) ≡ slice_index exit_bytes i
  pub text_in_data : (g.data_start ≤ text) × (text + length exit_bytes ≤ low_end x.core)
  pub text_fourfold : text % 4 ≡ 0
  pub text_apart : (byte : ℕ) → Owner m (first_objects union) byte → text ≤ byte → byte < text + length exit_bytes → ⊥
  -- registers, output and input
  pub stack : reg x.core 29 ≡ stack_end
  pub base : reg x.core 30 ≡ static_base g.data_start
  pub output : x.out ≡ []
  pub input_is : x.left ≡ input
  -- the machine
  pub words : HoldsWords x.core
  pub bytes : AreBytes x.left
  pub laid : IsLaidOut x
  pub data_start : x.core.data_start ≡ g.data_start
  pub behind : text_start < g.data_start
  pub gap : low_end x.core < stack_start
  pub order : x.core.order ≡ Big
  pub running : x.core.ending ≡ Running

-- THE RUN

-- What a run of code of at most so many instructions a function comes to, where C comes to this in
-- so many turns, having copied so many bytes:
--   where C has ended, the run has, with the same text, output and input left, within a limit;
--   where C is out of turns, the run goes on after at least as many steps, with the same output and
--   input left.
abbrev pub RunComesTo : (run : ℕ → Status) → (most turns copied : ℕ) → Outcome → Type 0
RunComesTo run most turns copied (Ended text s) =
    (n : ℕ) × (x : State) × (run n ≡ Gone x) × (exit_text x.core ≡ text) × (x.out ≡ s.output) × (x.left ≡ s.input) × (n ≤ (turns + copied) * most + 16)
RunComesTo run most turns copied (Out waits s) =
    (n : ℕ) × (r : Run) × (run n ≡ Going r) × (r.mach.state.out ≡ s.output) × (r.mach.state.left ≡ s.input) × (turns ≤ n)
RunComesTo run most turns copied (Undefined why place s) = Unit {0}
RunComesTo run most turns copied (Deep place s) = Unit {0}
RunComesTo run most turns copied (NoOutcome place s) = Unit {0}

-- Where the code of each function is right, the run from the start comes to what C comes to.
abbrev pub StartIsRight : Type 0
StartIsRight =
    (p : Addresses) (rs : List Routine) (g : Ground) (union : Union) (most arguments text : ℕ) (m : Map) (input : List ℕ) (x : State)
    → HasStart p rs arguments (g.function main_name) text
    → ((name : FunctionName) → callee union name ≢ NoCallee → HasCode p rs g (functions_of union) most name)
    → StandsFirst g m union arguments text input x
    → (turns : ℕ)
    → (let end : End = run_of union input turns in RunComesTo (arun_of p rs x) most turns (copied_of end) (outcome_of return_text end))
