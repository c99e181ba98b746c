-- The machine that runs linear code, with its stack of calls: what one of its steps does, and what a run from
-- where it stands comes to.
use Rattle.std.specs.Prelude.{◌≡◌, ◌≤◌, ℕ, zero, suc, ◌+◌, if◌then◌else◌, nat_lt, List, [], ◌∷◌, length, Option, Some, None, slice_get}
use Rattle.p9_cmean.specs.Cells.{FunctionName, Object, Value, State}
use Rattle.p9_cmean.specs.Plays.{Call, Play, Done, Wrong, NoMeaning, Exit, Cut, Turn, Ask, Moved}
use Rattle.p9_cmean.specs.PlayLaws.{Lasts}
use Rattle.p9_cmean.specs.Turns.{Outcome, Ended, Out, Undefined, Deep, NoOutcome, End, and_then, Calls, resolve, Functions, room, calls_to, outcome_of}
use Rattle.p9_cmean.specs.Automatics.{with_objects}
use Rattle.p9_cmean.specs.SystemCalls.{SystemCall, system_body}
use Rattle.p9_cmean.specs.Union.{base_need}
use Rattle.p9_cmean.specs.CRun.{return_text}
use Rattle.p9_flat.specs.declared.op.Op.{Op}
use Rattle.p9_flat.specs.Flat.{entry_at}
use Rattle.p9_flat.specs.Laws.{PlaysFrom}
use Rattle.p9_flat.specs.Step as steps
use Rattle.p9_flat.specs.Step.{Names, Own, Frame, frame, Step, step_at, answered, received, own_at, Plays}

-- What a function is to the machine: code, by the place where it stands, its module, the sizes of its parameters
-- and its need of room; a system call; or what has no meaning where it is called, with its need.
pub data Entry : Type 0 where
  Code : (pc owner : ℕ) (sizes : List ℕ) (need : ℕ) → Entry
  System : (system : SystemCall) → Entry
  Bare : (need : ℕ) → Entry

abbrev pub Table : Type 0
Table = FunctionName → Entry

abbrev pub need_of : Entry → ℕ
need_of (Code pc owner sizes need) = need
need_of (System system) = base_need
need_of (Bare need) = need

-- a call that waits for the answer of one that it made, and the needs that were active in it
pub record Waiting : Type 0 where
  pub pc : ℕ
  pub own : Own
  pub active : ℕ

-- where the machine stands: the innermost call, those that wait, the turns that are left, and the needs of all
-- active calls
pub record Config : Type 0 where
  pub top : Frame
  pub waiting : List Waiting
  pub state : State
  pub turns : ℕ
  pub active : ℕ

-- It goes on, or stops with an outcome; it is never lost. Where something has no number, nothing is said.
pub data Advance : Type 0 where
  On : Config → Advance
  Stops : Outcome → Advance
  Lost : Advance
  Unsaid : Advance

-- ANSWERS AND CALLS

-- a call gives its value to the one that waits
abbrev pub returns : Value → Frame → State → (turns : ℕ) → List Waiting → Advance
returns v f t turns [] = Stops (Ended return_text t)
returns v f t turns (w ∷ ws) =
    On (record { top = frame w.pc (v ∷ f.stack) w.own; waiting = ws; state = t; turns = turns; active = w.active })

-- a system call gives its value at once
abbrev pub answers : Play Value → Frame → Config → (turns : ℕ) → Advance
answers (Done v t) f c turns =
    On (record { top = answered v f; waiting = c.waiting; state = t; turns = turns; active = c.active })
answers (Wrong why place t) f c turns = Stops (Undefined why place t)
answers (NoMeaning place t) f c turns = Stops (NoOutcome place t)
answers (Exit text t) f c turns = Stops (Ended text t)
answers (Cut t) f c turns = Lost
answers (Turn t p) f c turns = Lost
answers (Ask call t p) f c turns = Lost
answers (Moved bytes p) f c turns = Lost

abbrev pub waits_for : Frame → Config → Waiting
waits_for f c = record { pc = f.pc; own = f.own; active = c.active }

abbrev pub begins : (pc owner need : ℕ) → Option (List Object) → Call → Frame → State → Config → (turns : ℕ) → Advance
begins pc owner need None call f t c turns = Stops (NoOutcome call.place t)
begins pc owner need (Some objects) call f t c turns =
    On (record {
      top = frame (entry_at pc) f.stack (own_at owner call.place (length objects) t);
      waiting = waits_for f c ∷ c.waiting;
      state = with_objects objects t;
      turns = turns;
      active = c.active + need;
    })

abbrev pub enters : Entry → Call → Frame → State → Config → (turns : ℕ) → Advance
enters (Code pc owner sizes need) call f t c turns = begins pc owner need (received sizes call.arguments) call f t c turns
enters (System system) call f t c turns = answers (system_body system call t) f c turns
enters (Bare need) call f t c turns = Stops (NoOutcome call.place t)

-- a call takes a turn, and then it needs its room
abbrev pub called : Entry → Call → Frame → State → Config → (turns : ℕ) → Advance
called e call f t c zero = Stops (Out (Some call) t)
called e call f t c (suc turns) =
    if nat_lt room (c.active + need_of e) then Stops (Deep call.place t) else enters e call f t c turns

-- STEPS

abbrev pub goes_on : Frame → State → Config → (turns : ℕ) → Advance
goes_on f t c turns = On (record { top = f; waiting = c.waiting; state = t; turns = turns; active = c.active })

abbrev pub turned : Frame → State → Config → (turns : ℕ) → Advance
turned f t c zero = Stops (Out None t)
turned f t c (suc turns) = goes_on f t c turns

abbrev pub after : Table → Step → Config → Advance
after table (steps.Next f t) c = goes_on f t c c.turns
after table (steps.Gives v f t) c = returns v f t c.turns c.waiting
after table (steps.Fails why place t) c = Stops (Undefined why place t)
after table (steps.Lacks place t) c = Stops (NoOutcome place t)
after table (steps.Turns f t) c = turned f t c c.turns
after table (steps.Moves bytes f t) c = goes_on f t c c.turns
after table (steps.Calls call f t) c = called (table call.function) call f t c c.turns
after table steps.Stuck c = Lost
after table steps.Unknown c = Unsaid

abbrev pub advance : Names → List Op → Table → Config → Advance
advance names code table c = after table (step_at names (slice_get code c.top.pc) c.top c.state) c

-- THE TABLE names functions

abbrev pub EntryIs : Names → List Op → Functions → FunctionName → Entry → Type 0
EntryIs names code functions name (Code pc owner sizes need) =
    (turns : ℕ) (call : Call) (s : State) → call.function ≡ name
    → Lasts (suc turns) (functions.body turns call s)
    × ((below : List Value) → PlaysFrom names code below pc owner (received sizes call.arguments) call s (functions.body turns call s))
EntryIs names code functions name (System system) =
    (turns : ℕ) (call : Call) (s : State) → call.function ≡ name → functions.body turns call s ≡ system_body system call s
EntryIs names code functions name (Bare need) =
    (turns : ℕ) (call : Call) (s : State) → call.function ≡ name → functions.body turns call s ≡ NoMeaning call.place s

pub record IsTable (names : Names) (code : List Op) (functions : Functions) (table : Table) : Type 0 where
  pub needs : (name : FunctionName) → functions.need name ≡ need_of (table name)
  pub entries : (name : FunctionName) → EntryIs names code functions name (table name)

-- WHAT A RUN COMES TO

-- the calls that wait for how the innermost one ends: of each the rest of its play, and the needs that were
-- active in it
pub data Observer : Type 0 where
  Last : Observer
  Under : (active : ℕ) (rest : Value → State → Play Value) (outer : Observer) → Observer

abbrev pub seen : Calls → Observer → End → Outcome
seen calls Last e = outcome_of return_text e
seen calls (Under active rest outer) e =
    seen calls outer (and_then e (λ v t left copied. resolve calls active left copied (rest v t)))

-- the calls that wait stand where the rests of their plays are played
abbrev pub Waits : Names → List Op → Observer → List Waiting → (stack : List Value) → (turns : ℕ) → Type 0
Waits names code Last [] stack turns = Unit {0}
Waits names code Last (w ∷ ws) stack turns = ⊥
Waits names code (Under active rest outer) [] stack turns = ⊥
Waits names code (Under active rest outer) (w ∷ ws) stack turns =
    (below : List Value) × (w.active ≡ active)
    × ((v : Value) (t : State) → Plays names code below (rest v t) (frame w.pc (v ∷ stack) w.own) t)
    × ((v : Value) (t : State) → Lasts (suc turns) (rest v t))
    × Waits names code outer ws below turns

-- the run from here on comes to an outcome
pub record ComesTo (names : Names) (code : List Op) (calls : Calls) (goal : Outcome) (c : Config) : Type 0 where
  pub play : Play Value
  pub copied : ℕ
  pub observer : Observer
  pub below : List Value
  pub plays : Plays names code below play c.top c.state
  pub lasts : Lasts (suc c.turns) play
  pub waits : Waits names code observer c.waiting below c.turns
  pub is : goal ≡ seen calls observer (resolve calls c.active c.turns copied play)

abbrev pub Keeps : Names → List Op → Calls → (goal : Outcome) → (turns : ℕ) → Advance → Type 0
Keeps names code calls goal turns (On c) = ComesTo names code calls goal c × (c.turns ≤ turns)
Keeps names code calls goal turns (Stops outcome) = outcome ≡ goal
Keeps names code calls goal turns Lost = ⊥
Keeps names code calls goal turns Unsaid = Unit {0}

-- THE START: a first call, under which none waits

abbrev pub first_answers : Play Value → Advance
first_answers (Done v t) = Stops (Ended return_text t)
first_answers (Wrong why place t) = Stops (Undefined why place t)
first_answers (NoMeaning place t) = Stops (NoOutcome place t)
first_answers (Exit text t) = Stops (Ended text t)
first_answers (Cut t) = Lost
first_answers (Turn t p) = Lost
first_answers (Ask call t p) = Lost
first_answers (Moved bytes p) = Lost

abbrev pub first_begins : (pc owner need : ℕ) → Option (List Object) → Call → State → (turns : ℕ) → Advance
first_begins pc owner need None call s turns = Stops (NoOutcome call.place s)
first_begins pc owner need (Some objects) call s turns =
    On (record {
      top = frame (entry_at pc) [] (own_at owner call.place (length objects) s);
      waiting = [];
      state = with_objects objects s;
      turns = turns;
      active = base_need + need;
    })

abbrev pub first_enters : Entry → Call → State → (turns : ℕ) → Advance
first_enters (Code pc owner sizes need) call s turns = first_begins pc owner need (received sizes call.arguments) call s turns
first_enters (System system) call s turns = first_answers (system_body system call s)
first_enters (Bare need) call s turns = Stops (NoOutcome call.place s)

abbrev pub starts : Table → Call → State → (turns : ℕ) → Advance
starts table call s zero = Stops (Out (Some call) s)
starts table call s (suc turns) =
    if nat_lt room (base_need + need_of (table call.function)) then Stops (Deep call.place s)
    else first_enters (table call.function) call s turns

-- LAWS

-- The machine begins a first call where it comes to what the call comes to, or stops with it.
abbrev pub StartIsRight : Type 0
StartIsRight =
    (names : Names) (code : List Op) (functions : Functions) (table : Table) → IsTable names code functions table
    → (depth turns : ℕ) (call : Call) (s : State) → turns ≤ depth
    → Keeps names code (calls_to depth functions)
    (outcome_of return_text (calls_to depth functions base_need turns 0 call s)) turns (starts table call s turns)

-- A step keeps what the run comes to, or stops with it.
abbrev pub MachineIsRight : Type 0
MachineIsRight =
    (names : Names) (code : List Op) (functions : Functions) (table : Table) → IsTable names code functions table
    → (depth : ℕ) (goal : Outcome) (c : Config) → c.turns ≤ depth
    → ComesTo names code (calls_to depth functions) goal c
    → Keeps names code (calls_to depth functions) goal c.turns (advance names code table c)
