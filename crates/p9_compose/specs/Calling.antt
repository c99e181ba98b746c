-- What the run of a program comes to at a call, where the code of its functions is right.
use Rattle.std.specs.Prelude.{◌≡◌, ◌≢◌, ◌⊎◌, ◌<◌, ◌≤◌, ℕ, suc, ◌+◌, ◌*◌, Bool, Option, Some, List, [], ◌∷◌, length, slice_get}
use Rattle.p9_base.specs.Words.{IsWord}
use Rattle.p9_base.specs.SystemCalls.{State, exit_text}
use Rattle.p9_abs.specs.Validity.{EndsWell}
use Rattle.p9_abs.specs.Steps.{Mach, Calls, step}
use Rattle.p9_abs.specs.Runs.{Routine, Addresses, Active, Run, Status, Going, Gone, kept_by, routine_at, linked_to, around_of, arun_from}
use Rattle.p9_abs.specs.Keeping.{nowhere}
use Rattle.p9_cmean.specs.Cells as c
use Rattle.p9_cmean.specs.Cells.{FunctionName, Value}
use Rattle.p9_cmean.specs.Plays.{Call, Play, Done, Wrong, NoMeaning, Exit, Cut, Turn, Ask, Moved}
use Rattle.p9_cmean.specs.PlayLaws.{Lasts}
use Rattle.p9_cmean.specs.Turns.{Ended, Out, Undefined, Deep, NoOutcome, End, Gave, Over, Functions, calls_to}
use Rattle.p9_cmean.specs.Union.{Union, base_need}
use Rattle.p9_cmean.specs.CRun.{callee, NoCallee, functions_of, main_call, first_state, run_of}
use Rattle.p9_sim.specs.Memory.{Map, Ground}
use Rattle.p9_sim.specs.Matching.{AtCall, Entry, entry_of, Answers}
use Rattle.p9_sim.specs.Playing.{AllSteps}
use Rattle.p9_sim.specs.Functions.{FnOk}

-- THE PROGRAM

-- A function's code in the program, at the address that the function has, with no more instructions
-- than `most`: it is right.
pub record HasCode (p : Addresses) (rs : List Routine) (g : Ground) (functions : Functions) (most : ℕ) (name : FunctionName) : Type 0 where
  pub number : ℕ
  pub routine : Routine
  pub found : routine_at p rs 0 (g.function name) ≡ Some number
  pub is : slice_get rs number ≡ Some routine
  pub ends_well : EndsWell routine.def.code
  pub short : length routine.def.code ≤ most
  pub placed : (k : ℕ) → k < length routine.def.code → IsWord (p.instruction number k)
  pub ok : FnOk AllSteps g (p.symbol routine.unit) routine.def (functions.need name) functions.body name

-- a call of the function has no meaning, since the program doesn't have it
abbrev pub IsMeaningless : Play Value → Type 0
IsMeaningless (NoMeaning place s) = Unit {0}
IsMeaningless (Done v s) = ⊥
IsMeaningless (Wrong why place s) = ⊥
IsMeaningless (Exit text s) = ⊥
IsMeaningless (Cut s) = ⊥
IsMeaningless (Turn s p) = ⊥
IsMeaningless (Ask call s k) = ⊥
IsMeaningless (Moved bytes p) = ⊥

abbrev pub IsAbsent : Functions → FunctionName → Type 0
IsAbsent functions name = (turns : ℕ) (call : Call) (s : c.State) → call.function ≡ name → IsMeaningless (functions.body turns call s)

-- A program: each function has its code, which is right, or isn't there; and each body that is given
-- turns takes more than these before it is cut off.
pub record IsProgram (p : Addresses) (rs : List Routine) (g : Ground) (functions : Functions) (most : ℕ) : Type 0 where
  pub codes : (name : FunctionName) → HasCode p rs g functions most name ⊎ IsAbsent functions name
  pub last : (turns : ℕ) (call : Call) (s : c.State) → Lasts (suc turns) (functions.body turns call s)

-- A CALL

-- a function's run stands at an instruction
abbrev pub run_at : Mach → (routine : ℕ) → (kept : Option ℕ) → List Active → Run
run_at x routine kept callers = record { mach = x; routine = routine; kept = kept; callers = callers }

-- the caller waits behind its JAL
abbrev pub waiting : (routine : ℕ) → (kept : Option ℕ) → Mach → Active
waiting routine kept z = record { routine = routine; after = z.at; kept = kept }

-- the run of the caller, once the call has returned with this state
abbrev pub resumed : Active → List Active → State → Run
resumed a callers x = run_at (record { state = x; vars = []; at = a.after }) a.routine a.kept callers

-- Code of at most so many instructions that goes on for n turns, and copies so many bytes, takes at
-- most so many steps, with one for the JAL of the call.
abbrev pub step_limit : (most turns copied : ℕ) → ℕ
step_limit most turns copied = 1 + (turns + copied) * most

-- What the run comes to from the caller's JAL on, where the call of C, given so many turns, with
-- so many bytes copied before, comes to an end:
--   where it returns, so does the code, with what a call may leave, in more steps than turns were
--   taken, the JAL and the RET being counted;
--   where it ends the program, so does the code, with the same text, output and input left;
--   where it is out of turns, the code still runs, with the same output and input left, after at
--   least as many steps as there were turns.
-- In the first two cases the steps have a limit.
abbrev pub ComesTo : Addresses → List Routine → Ground → (most : ℕ) → (turns copied : ℕ) → Status → Active → List Active → (active : ℕ) → Entry → End → Type 0
ComesTo p rs g most turns copied from a callers active entry (Gave v t left moved) =
    (j : ℕ) × (m : Map) × (x : State) × (arun_from p rs j from ≡ Going (resumed a callers x))
    × Answers g nowhere (kept_by (a ∷ callers)) active entry m t x v
    × (left < turns) × (copied ≤ moved) × (turns + 1 ≤ left + j) × (j + (left + copied) * most ≤ step_limit most turns moved)
ComesTo p rs g most turns copied from a callers active entry (Over (Ended text s) moved) =
    (j : ℕ) × (x : State) × (arun_from p rs j from ≡ Gone x) × (exit_text x.core ≡ text) × (x.out ≡ s.output) × (x.left ≡ s.input)
    × (j + copied * most ≤ step_limit most turns moved)
ComesTo p rs g most turns copied from a callers active entry (Over (Out waits s) moved) =
    (j : ℕ) × (r : Run) × (arun_from p rs j from ≡ Going r) × (r.mach.state.out ≡ s.output) × (r.mach.state.left ≡ s.input) × (turns ≤ j)
ComesTo p rs g most turns copied from a callers active entry (Over (Undefined why place s) moved) = Unit {0}
ComesTo p rs g most turns copied from a callers active entry (Over (Deep place s) moved) = Unit {0}
ComesTo p rs g most turns copied from a callers active entry (Over (NoOutcome place s) moved) = Unit {0}

-- THE LAW: at each JAL of a program that names a function, with the arguments in their places, the
-- run comes to what the call comes to, whatever the number of turns.
abbrev pub CallsAreRight : Type 0
CallsAreRight =
    (p : Addresses) (rs : List Routine) (g : Ground) (functions : Functions) (most : ℕ) → IsProgram p rs g functions most
    → (call : Call) (s : c.State) (turns copied active : ℕ) (m : Map) (f : ℕ) (kept : Option ℕ) (callers : List Active) (rt : Routine) (y z : Mach)
    → slice_get rs f ≡ Some rt → IsWord (p.instruction f z.at)
    → step (around_of p rt (run_at y f kept callers)) rt.def.code y ≡ Calls (g.function call.function) z
    → (let a : Active = waiting f kept z in
    let others : ℕ → Bool = kept_by (a ∷ callers) in
    let x : State = linked_to (p.instruction f z.at) z.state in
    AtCall g others others active m call s x
    → ComesTo p rs g most turns copied (Going (run_at y f kept callers)) a callers active (entry_of m s call x) (calls_to turns functions active turns copied call s))

-- C MODULES: their union is a program where each function that is there has its code, which is right

abbrev pub UnionIsProgram : Type 0
UnionIsProgram =
    (p : Addresses) (rs : List Routine) (g : Ground) (union : Union) (most : ℕ)
    → ((name : FunctionName) → callee union name ≢ NoCallee → HasCode p rs g (functions_of union) most name)
    → IsProgram p rs g (functions_of union) most

-- So the call of `main` comes to what the run of C comes to, at every number of turns.
abbrev pub MainIsRight : Type 0
MainIsRight =
    (p : Addresses) (rs : List Routine) (g : Ground) (union : Union) (most : ℕ)
    → ((name : FunctionName) → callee union name ≢ NoCallee → HasCode p rs g (functions_of union) most name)
    → (input : List ℕ) (turns : ℕ) (m : Map) (f : ℕ) (kept : Option ℕ) (callers : List Active) (rt : Routine) (y z : Mach)
    → slice_get rs f ≡ Some rt → IsWord (p.instruction f z.at)
    → (let call : Call = main_call union in
    let a : Active = waiting f kept z in
    let others : ℕ → Bool = kept_by (a ∷ callers) in
    let x : State = linked_to (p.instruction f z.at) z.state in
    let s : c.State = first_state union input in
    step (around_of p rt (run_at y f kept callers)) rt.def.code y ≡ Calls (g.function call.function) z
    → AtCall g others others base_need m call s x
    → ComesTo p rs g most turns 0 (Going (run_at y f kept callers)) a callers base_need (entry_of m s call x) (run_of union input turns))
