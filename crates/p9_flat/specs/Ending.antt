-- How long code goes on without a turn.
use Rattle.std.specs.Prelude.{◌≡◌, ◌≤◌, ◌<◌, ℕ, zero, suc, ◌+◌, List, [], ◌∷◌, Option, Some, None, length, slice_get}
use Rattle.p9_cmean.specs.Cells.{FunctionName, State}
use Rattle.p9_cmean.specs.Plays.{Call}
use Rattle.p9_cmean.specs.Union.{FunctionEntry, Union}
use Rattle.p9_cmean.specs.CRun.{Defined, callee, surroundings}
use Rattle.p9_flat.specs.Code.{Numbers}
use Rattle.p9_flat.specs.Program.{IsLinked, table_of}
use Rattle.p9_flat.specs.declared.op.Op.{Op}
use Rattle.p9_flat.specs.declared.op.Op.TheVariants as op
use Rattle.p9_flat.specs.Flat.{entry_at, function_code}
use Rattle.p9_flat.specs.Machine.{Entry, Code, System, Bare, Table, Waiting, Config, Advance, On, Stops, Lost, Unsaid, starts, advance}
use Rattle.p9_flat.specs.Step.{Names}

-- where a call may go on behind an operation
abbrev pub next_places : Op → (pc : ℕ) → List ℕ
next_places (op.Jump to) pc = to ∷ []
next_places (op.Branch of_pointer here otherwise) pc = suc pc ∷ (otherwise ∷ [])
next_places (op.Case word to) pc = suc pc ∷ (to ∷ [])
next_places op.Turn pc = []
next_places (op.NoMeaning here) pc = []
next_places op.Stray pc = []
next_places op.Unnumbered pc = []
next_places op.Return pc = []
next_places o pc = suc pc ∷ []

-- and behind a turn
abbrev pub turn_places : Op → (pc : ℕ) → List ℕ
turn_places op.Turn pc = suc pc ∷ []
turn_places o pc = []

abbrev pub AllOf : (ℕ → Type 0) → List ℕ → Type 0
AllOf P [] = Unit {0}
AllOf P (x ∷ xs) = P x × AllOf P xs

abbrev pub Behind : (next turned : ℕ → Type 0) → (pc : ℕ) → Option Op → Type 0
Behind next turned pc None = Unit {0}
Behind next turned pc (Some o) = AllOf next (next_places o pc) × AllOf turned (turn_places o pc)

-- From a place on there are fewer than so many operations before a turn, behind which this holds.
abbrev pub Within : (turned : ℕ → Type 0) → List Op → ℕ → (pc : ℕ) → Type 0
Within turned code zero pc = ⊥
Within turned code (suc n) pc = Behind (Within turned code n) turned pc (slice_get code pc)

-- so before each of so many turns, with a bound behind each
abbrev pub Short : List Op → (bound turns : ℕ) → ℕ → (pc : ℕ) → Type 0
Short code bound zero n pc = Within (λ q. Unit {0}) code n pc
Short code bound (suc turns) n pc = Within (Short code bound turns bound) code n pc

-- so before every turn
abbrev pub IsBrief : List Op → (bound : ℕ) → ℕ → (pc : ℕ) → Type 0
IsBrief code bound n pc = (turns : ℕ) → Short code bound turns n pc

-- THE MACHINE

abbrev pub EntryIsBrief : List Op → (bound : ℕ) → Entry → Type 0
EntryIsBrief code bound (Code pc owner sizes need) = IsBrief code bound bound (entry_at pc)
EntryIsBrief code bound (System system) = Unit {0}
EntryIsBrief code bound (Bare need) = Unit {0}

abbrev pub WaitsBriefly : List Op → (bound : ℕ) → List ℕ → List Waiting → Type 0
WaitsBriefly code bound [] [] = Unit {0}
WaitsBriefly code bound [] (w ∷ ws) = ⊥
WaitsBriefly code bound (n ∷ ns) [] = ⊥
WaitsBriefly code bound (n ∷ ns) (w ∷ ws) = IsBrief code bound n w.pc × WaitsBriefly code bound ns ws

abbrev pub total : List ℕ → ℕ
total [] = 0
total (n ∷ ns) = n + total ns

-- the steps that so many turns allow
abbrev pub for_turns : (bound turns : ℕ) → ℕ
for_turns bound zero = 0
for_turns bound (suc turns) = suc bound + for_turns bound turns

-- at most so many steps are left
pub record EndsWithin (code : List Op) (bound steps : ℕ) (c : Config) : Type 0 where
  pub here : ℕ
  pub others : List ℕ
  pub top_is : IsBrief code bound here c.top.pc
  pub waiting_are : WaitsBriefly code bound others c.waiting
  pub sum_is : (here + total others) + for_turns bound c.turns ≤ steps

abbrev pub EndsSooner : List Op → (bound steps : ℕ) → Advance → Type 0
EndsSooner code bound steps (On c) = (fewer : ℕ) × (fewer < steps) × EndsWithin code bound fewer c
EndsSooner code bound steps (Stops outcome) = Unit {0}
EndsSooner code bound steps Lost = Unit {0}
EndsSooner code bound steps Unsaid = Unit {0}

abbrev pub EndsBy : List Op → (bound steps : ℕ) → Advance → Type 0
EndsBy code bound steps (On c) = EndsWithin code bound steps c
EndsBy code bound steps (Stops outcome) = Unit {0}
EndsBy code bound steps Lost = Unit {0}
EndsBy code bound steps Unsaid = Unit {0}

abbrev pub TableIsBrief : List Op → (bound : ℕ) → Table → Type 0
TableIsBrief code bound table = (name : FunctionName) → EntryIsBrief code bound (table name)

-- Each step leaves fewer, where the code of every function is brief.
abbrev pub MachineEnds : Type 0
MachineEnds =
    (names : Names) (code : List Op) (table : Table) (bound : ℕ) → TableIsBrief code bound table
    → (steps : ℕ) (c : Config) → EndsWithin code bound steps c → EndsSooner code bound steps (advance names code table c)

-- At its start it has as many as its turns allow.
abbrev pub StartEnds : Type 0
StartEnds =
    (code : List Op) (table : Table) (bound : ℕ) → TableIsBrief code bound table
    → (call : Call) (s : State) (turns : ℕ) → EndsBy code bound (for_turns bound turns) (starts table call s turns)

-- The code of functions is brief, where none is longer than the bound.
abbrev pub ProgramsAreBrief : Type 0
ProgramsAreBrief =
    (union : Union) (names : Names) (numbers : ℕ → Numbers) (code : List Op) (place : FunctionName → ℕ) (bound : ℕ)
    → IsLinked union names numbers code place
    → ((name : FunctionName) (entry : FunctionEntry) → callee union name ≡ Defined entry
    → length (function_code (numbers entry.owner) (surroundings union entry.owner entry.tags) (place name) entry.definition) ≤ bound)
    → TableIsBrief code bound (table_of union place)
