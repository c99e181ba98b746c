-- When the code of a call does what a play does.
use Rattle.std.specs.Prelude.{◌≡◌, ◌≤◌, ℕ, zero, suc, ◌+◌, Bool, if◌then◌else◌}
use Rattle.p9_base.specs.Words.{IsWord}
use Rattle.p9_base.specs.SystemCalls.{State, exit_text}
use Rattle.p9_abs.specs.declared.instructions.TextDef.{TextDef}
use Rattle.p9_abs.specs.Steps.{Mach, Around, Step, Next, Turns, Calls, Returns, Exits, Undefined, step}
use Rattle.p9_abs.specs.Runs.{linked_to, raised}
use Rattle.p9_abs.specs.Keeping.{is_back, nowhere}
use Rattle.p9_cmean.specs.Cells as c
use Rattle.p9_cmean.specs.Cells.{Value}
use Rattle.p9_cmean.specs.Plays.{Play, Done, Wrong, NoMeaning, Exit, Cut, Turn, Ask, Moved}
use Rattle.p9_sim.specs.Memory.{Map, Extends, Ground}
use Rattle.p9_sim.specs.Matching.{AtCall, Entry, entry_of, Answers}

-- COUNTS

-- which steps are counted: each one, or branches, JMP and JAL alone
pub data Counting : Type 0 where
  AllSteps : Counting
  Branches : Counting

-- The turns that a call's body takes, and the steps of its code; the steps back that are allowed so
-- far, one for each turn of the body other than by a call and one for each byte that it copies; and
-- those that were taken. What an inner call takes isn't counted: it takes at least as many steps as
-- turns.
pub record Count : Type 0 where
  pub turns : ℕ
  pub steps : ℕ
  pub allowed : ℕ
  pub backs : ℕ

-- behind the entry: the turn of the call, and its JAL
abbrev pub first_count : Count
first_count = record { turns = 1; steps = 1; allowed = 0; backs = 0 }

-- at least as many steps as turns, and no more steps back than are allowed
pub record IsPaid (d : Count) : Type 0 where
  pub steps : d.turns ≤ d.steps
  pub backs : d.backs ≤ d.allowed

abbrev pub after_plain : Counting → Count → Count
after_plain AllSteps d = record d { steps = d.steps + 1 }
after_plain Branches d = d

-- a step back is a branch that is taken, or a JMP, to an instruction that isn't later
abbrev pub back_step : (taken : Bool) → (from to : ℕ) → ℕ
back_step taken from to = if is_back taken from to then 1 else 0

abbrev pub after_branch : (taken : Bool) → (from to : ℕ) → Count → Count
after_branch taken from to d = record d { steps = d.steps + 1; backs = d.backs + back_step taken from to }

abbrev pub after_call : Count → Count
after_call d = record d { steps = d.steps + 1 }

abbrev pub after_turn : Count → Count
after_turn d = record d { turns = d.turns + 1; allowed = d.allowed + 1 }

abbrev pub after_copy : (bytes : ℕ) → Count → Count
after_copy bytes d = record d { allowed = d.allowed + bytes }

-- THE CODE OF ONE CALL

-- What it stands in: its instructions and frame; the bytes of its frame that it may not touch, and
-- those that no live object may own; the needs of all active calls; of its caller the bytes that no
-- live object may own, and the needs; and how it began.
pub record Setting : Type 0 where
  pub placing : Ground
  pub counting : Counting
  pub around : Around
  pub def : TextDef
  pub loose : ℕ → Bool
  pub shut : ℕ → Bool
  pub active : ℕ
  pub outer_shut : ℕ → Bool
  pub outer_active : ℕ
  pub entry : Entry

abbrev pub step_in : Setting → Mach → Step
step_in set x = step set.around set.def.code x

-- the step stays within the call
abbrev pub Continues : Setting → Step → (from : ℕ) → Count → (Mach → Count → Type 0) → Type 0
Continues set (Next y) from d P = P y (after_plain set.counting d)
Continues set (Turns taken y) from d P = P y (after_branch taken from y.at d)
Continues set (Calls to y) from d P = ⊥
Continues set (Returns y) from d P = ⊥
Continues set (Exits y) from d P = ⊥
Continues set Undefined from d P = ⊥

-- so many steps within the call
abbrev pub Goes : Setting → (steps : ℕ) → Mach → Count → Mach → Count → Type 0
Goes set zero x d y e = (x ≡ y) × (d ≡ e)
Goes set (suc n) x d y e = Continues set (step_in set x) x.at d (λ z f. Goes set n z f y e)

pub record Reaches (set : Setting) (x : Mach) (d : Count) : Type 0 where
  pub steps : ℕ
  pub to : Mach
  pub count : Count
  pub goes : Goes set steps x d to count

-- the state behind its RET, which sets R31 to the address that it returns to
abbrev pub after_return : Setting → (to : ℕ) → Mach → State
after_return set to x = raised set.def (linked_to to x.state)

-- the state behind a JAL, which sets R31 to the address of the next instruction
abbrev pub after_jal : (to : ℕ) → Mach → State
after_jal to x = linked_to to x.state

-- the same output, and the same input is left
abbrev pub IsEven : c.State → State → Type 0
IsEven s x = (x.out ≡ s.output) × (x.left ≡ s.input)

-- THE CODE DOES WHAT THE PLAY DOES, from a state that is matched by the map m:
--   where the play is done, it comes to a RET, matched, with the result;
--   where the play ends the program, it exits with the same text, output and input;
--   where the play takes a turn, it has the same output and input;
--   where the play calls, it comes to a JAL of the same function, matched, with the arguments, and
--   goes on from each state that the call may leave.
-- At each of these places the count is paid; at an exit the steps back are. Nothing is said where the
-- play is undefined.
abbrev pub Performs : Setting → Play Value → Map → Count → Mach → Type 0
Performs set (Done v s) m d x =
    (r : Reaches set x d) × (z : Mach) × (step_in set r.to ≡ Returns z) × IsPaid r.count × (n : Map)
    × ((to : ℕ) → IsWord to → Answers set.placing nowhere set.outer_shut set.outer_active set.entry n s (after_return set to z) v)
Performs set (Exit text s) m d x =
    (r : Reaches set x d) × (z : Mach) × (step_in set r.to ≡ Exits z) × (r.count.backs ≤ r.count.allowed) × (exit_text z.state.core ≡ text) × IsEven s z.state
Performs set (Turn s p) m d x =
    (r : Reaches set x d) × IsPaid r.count × IsEven s r.to.state × Performs set p m (after_turn r.count) r.to
Performs set (Moved bytes p) m d x = Performs set p m (after_copy bytes d) x
Performs set (Ask call s k) m d x =
    (r : Reaches set x d) × (z : Mach) × (step_in set r.to ≡ Calls (set.placing.function call.function) z) × IsPaid r.count × (n : Map) × Extends m n
    × ((to : ℕ) → IsWord to → AtCall set.placing set.around.banned set.shut set.active n call s (after_jal to z))
    × ((to : ℕ) → IsWord to → (v : Value) (t : c.State) (u : Map) (w : State)
    → Answers set.placing set.loose set.shut set.active (entry_of n s call (after_jal to z)) u t w v
    → Performs set (k v t) u (after_call r.count) (record z { state = w }))
Performs set (Wrong why place s) m d x = Unit {0}
Performs set (NoMeaning place s) m d x = Unit {0}
Performs set (Cut s) m d x = Unit {0}
