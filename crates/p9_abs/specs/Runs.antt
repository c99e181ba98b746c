-- The run of functions: entries, calls, returns, and where return addresses are kept.
use Rattle.std.specs.Prelude.{ℕ, zero, suc, ◌+◌, ◌-◌, ◌==◌, ◌&&◌, ◌||◌, nat_lt, nat_le, Bool, true, false, not, Option, Some, None, if◌then◌else◌, List, [], ◌∷◌, slice_get}
use Rattle.std.specs.List.{list_any}
use Rattle.p9_base.specs.Words.{word_sum}
use Rattle.p9_base.specs.Core.{Core, stack_start, reg, with_reg, with_word}
use Rattle.p9_base.specs.SystemCalls.{State}
use Rattle.p9_abs.specs.declared.instructions.Abs.{Abs}
use Rattle.p9_abs.specs.declared.instructions.TextDef.{TextDef}
use Rattle.p9_abs.specs.Forms.{decoded}
use Rattle.p9_abs.specs.Automatics.{holds_of, calls_in}
use Rattle.p9_abs.specs.Steps.{Mach, Around, Step, Next, Turns, Calls, Returns, Exits, Undefined, step}

-- Functions

-- a function, by the numbers of its module and symbol
pub record Routine : Type 0 where
  pub unit : ℕ
  pub symbol : ℕ
  pub def : TextDef

-- the addresses of what each module's symbols name, and of the instructions of each function
pub record Addresses : Type 0 where
  pub symbol : ℕ → ℕ → ℕ
  pub instruction : ℕ → ℕ → ℕ

-- code of this frame keeps its return address in memory: it has a frame or a call
abbrev pub keeps_return : ℕ → List Abs → Bool
keeps_return frame code = not (frame == 0) || list_any (λ (a : Abs). holds_of calls_in (decoded a)) code

-- what its entry takes from R29
abbrev pub taken_from_stack : ℕ → List Abs → ℕ
taken_from_stack frame code = if keeps_return frame code then frame + 4 else 0

abbrev pub keeps : TextDef → Bool
keeps def = keeps_return def.frame def.code

abbrev pub taken_by : TextDef → ℕ
taken_by def = taken_from_stack def.frame def.code

-- The state of a run

-- a call that waits for another: its function, the instruction at which it goes on, and the address
-- at which its own return address is kept
pub record Active : Type 0 where
  pub routine : ℕ
  pub after : ℕ
  pub kept : Option ℕ

pub record Run : Type 0 where
  pub mach : Mach
  pub routine : ℕ
  pub kept : Option ℕ
  pub callers : List Active

pub data Status : Type 0 where
  Going : (r : Run) → Status
  Gone : (s : State) → Status
  Broken : Status

-- byte b is one of the kept word
abbrev pub in_word : ℕ → Option ℕ → Bool
in_word b None = false
in_word b (Some kept) = nat_le kept b && nat_lt b (kept + 4)

abbrev pub kept_by : List Active → ℕ → Bool
kept_by callers b = list_any (λ (c : Active). in_word b c.kept) callers

-- byte b is one of a return address that an active call keeps
abbrev pub is_kept : Run → ℕ → Bool
is_kept r b = in_word b r.kept || kept_by r.callers b

-- Entries

abbrev pub lowered : Core → ℕ → Core
lowered c n = record c { regs = with_reg c.regs 29 (reg c 29 - n) }

abbrev pub at_first : State → ℕ → Option ℕ → List Active → Status
at_first s f kept callers =
    Going (record { mach = record { state = s; vars = []; at = 0 }; routine = f; kept = kept; callers = callers })

-- a function that keeps its return address takes its frame, and stores R31 at R29
abbrev pub kept_entry : TextDef → State → ℕ → List Active → Status
kept_entry def s f callers =
    if nat_le (stack_start + (def.frame + 4)) (reg s.core 29) then
    (let sp : ℕ = reg s.core 29 - (def.frame + 4) in
    at_first (record s { core = with_word (lowered s.core (def.frame + 4)) sp (reg s.core 31) }) f (Some sp) callers)
    else Broken

abbrev pub entered : TextDef → State → ℕ → List Active → Status
entered def s f callers = if keeps def then kept_entry def s f callers else at_first s f None callers

abbrev pub entered_in : Option Routine → State → ℕ → List Active → Status
entered_in None s f callers = Broken
entered_in (Some r) s f callers = entered r.def s f callers

-- the least function from f on that has this address
abbrev pub routine_at : Addresses → List Routine → ℕ → ℕ → Option ℕ
routine_at p [] f to = None
routine_at p (r ∷ rs) f to = if p.symbol r.unit r.symbol == to then Some f else routine_at p rs (f + 1) to

abbrev pub enters : List Routine → Option ℕ → State → List Active → Status
enters rs None s callers = Broken
enters rs (Some f) s callers = entered_in (slice_get rs f) s f callers

-- Returns

abbrev pub linked_to : ℕ → State → State
linked_to to s = record s { core = record s.core { regs = with_reg s.core.regs 31 to } }

abbrev pub raised : TextDef → State → State
raised def s =
    if keeps def then record s { core = record s.core { regs = with_reg s.core.regs 29 (word_sum (reg s.core 29) (def.frame + 4)) } }
    else s

-- back to the caller, with R31 as the address that this returns to
abbrev pub returned : Addresses → TextDef → Mach → List Active → Status
returned p def x [] = Broken
returned p def x (c ∷ cs) =
    Going (record {
      mach = record { state = raised def (linked_to (p.instruction c.routine c.after) x.state); vars = []; at = c.after };
      routine = c.routine;
      kept = c.kept;
      callers = cs;
    })

-- Runs

abbrev pub around_of : Addresses → Routine → Run → Around
around_of p f r = record { symbol = p.symbol f.unit; taken = taken_by f.def; offsets = []; banned = is_kept r }

abbrev pub stepped : Addresses → List Routine → Routine → Run → Step → Status
stepped p rs f r (Next x) = Going (record r { mach = x })
stepped p rs f r (Turns taken x) = Going (record r { mach = x })
stepped p rs f r (Calls to x) =
    enters rs (routine_at p rs 0 to) (linked_to (p.instruction r.routine x.at) x.state)
    (record { routine = r.routine; after = x.at; kept = r.kept } ∷ r.callers)
stepped p rs f r (Returns x) = returned p f.def x r.callers
stepped p rs f r (Exits x) = Gone x.state
stepped p rs f r Undefined = Broken

abbrev pub in_routine : Addresses → List Routine → Option Routine → Run → Status
in_routine p rs None r = Broken
in_routine p rs (Some f) r = stepped p rs f r (step (around_of p f r) f.def.code r.mach)

abbrev pub onward : Addresses → List Routine → Status → Status
onward p rs (Going r) = in_routine p rs (slice_get rs r.routine) r
onward p rs (Gone s) = Gone s
onward p rs Broken = Broken

-- n steps
unfoldable pub arun_from : Addresses → List Routine → ℕ → Status → Status
arun_from p rs zero s = s
arun_from p rs (suc n) s = onward p rs (arun_from p rs n s)

-- the first function is called at the start
unfoldable pub arun_of : Addresses → List Routine → State → ℕ → Status
arun_of p rs start n = arun_from p rs n (enters rs (Some 0) start [])
