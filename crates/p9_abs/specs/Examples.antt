-- Small programs, computed: each kind of undefined step, and what lies next to it and is defined; where
-- an automatic is live, its region and its cost.
use Rattle.std.specs.Prelude.{ℕ, ◌+◌, ◌-◌, ◌*◌, ◌^◌, ◌≡◌, ◌↔◌, Bool, true, false, Option, Some, None, List, [], ◌∷◌, replicate, slice_set, slice_get}
use Rattle.p9_base.specs.declared.halt.Ending.TheVariants.{Running}
use Rattle.p9_base.specs.declared.order.ByteOrder.TheVariants.{Big}
use Rattle.p9_base.specs.Core.{Core, text_start, stack_start, reg}
use Rattle.p9_base.specs.SystemCalls.{State}
use Rattle.p9_abs.specs.declared.instructions.Op.{Op}
use Rattle.p9_abs.specs.declared.instructions.Op.TheVariants.{MovW, MovH, Add, Sub, Div, DivU, Jal, Ret, Syscall}
use Rattle.p9_abs.specs.declared.instructions.Operand.{Operand}
use Rattle.p9_abs.specs.declared.instructions.Operand.TheVariants.{Reg, Const, MemReg, Func, Auto}
use Rattle.p9_abs.specs.declared.instructions.Abs.{Abs}
use Rattle.p9_abs.specs.declared.instructions.TextDef.{TextDef}
use Rattle.p9_abs.specs.declared.instructions.AFunction.{AFunction}
use Rattle.p9_abs.specs.declared.regions.Region.{Region}
use Rattle.p9_abs.specs.Framed.{instruction}
use Rattle.p9_abs.specs.Runs.{Routine, Addresses, Run, Status, Going, Gone, Broken, arun_of}
use Rattle.p9_abs.specs.OneCall.{Layout, Stop, Still, Asks, Ends, Leaves, Wrong, around_call, goes}
use Rattle.p9_abs.specs.Steps.{Mach}
use Rattle.p9_abs.specs.Automatics.{is_candidate, IsLive}
use Rattle.p9_abs.specs.Regions.{IsRegion, cost_of}
use Rattle.p9_abs.specs.Keeping.{nowhere}

-- Programs

-- registers 0 but for R2, R3 and R29; 16 bytes of data, and the lowest 64 bytes of the stack
abbrev pub registers : (second third stack : ℕ) → List ℕ
registers second third stack = slice_set (slice_set (slice_set (replicate 32 0) 2 second) 3 third) 29 stack

abbrev pub core : List ℕ → Core
core regs = record {
  order = Big;
  regs = regs;
  hi = 0;
  lo = 0;
  low = replicate 16 0;
  stack = replicate 64 0;
  text_end = text_start;
  data_start = text_start;
  pc = text_start;
  next = text_start + 4;
  slot = false;
  loaded = 0;
  used = false;
  used_before = false;
  ending = Running;
}

abbrev pub state_of : List ℕ → State
state_of regs = record { core = core regs; left = []; out = [] }

-- functions of one module, and their addresses
abbrev pub function : ℕ → ℕ → List Abs → Routine
function k frame code = record { unit = 0; symbol = k; def = record { frame = frame; code = code } }

abbrev pub addresses : Addresses
addresses = record {
  symbol = λ unit k. text_start + 64 * k;
  instruction = λ f k. text_start + 64 * f + 4 * k;
}

abbrev pub ret : Abs
ret = instruction Ret []

-- what the first function, whose first instruction is this, comes to in one step: with this frame, with
-- R29 so far above the stack's floor, and with R2 and R3
abbrev pub first_step : Abs → (frame stack second third : ℕ) → Status
first_step a frame stack second third =
    arun_of addresses (function 0 frame (a ∷ ret ∷ []) ∷ []) (state_of (registers second third (stack_start + stack))) 1

abbrev pub is_going : Status → Bool
is_going (Going r) = true
is_going (Gone s) = false
is_going Broken = false

abbrev pub load : ℕ → ℕ → Abs
load base offset = instruction MovW (MemReg base offset ∷ Reg 4 ∷ [])

-- Undefined steps

-- 0(R29) is the return address's word, and 4(R29) isn't
abbrev pub KeptWordIsBanned : Type 0
KeptWordIsBanned = (first_step (load 29 0) 4 48 0 0 ≡ Broken) × (is_going (first_step (load 29 4) 4 48 0 0) ≡ true)

-- a caller reads the word at -8(R29) that its function kept: once it has returned, and while it is active
abbrev pub caller : Abs → List Abs
caller then = instruction Jal (Func 1 ∷ []) ∷ then ∷ ret ∷ []

abbrev pub after_calls : List Abs → List Abs → ℕ → Status
after_calls first second n =
    arun_of addresses (function 0 8 first ∷ function 1 4 second ∷ []) (state_of (registers 0 0 (stack_start + 48))) n

abbrev pub KeptWordIsFreedByReturn : Type 0
KeptWordIsFreedByReturn =
    (is_going (after_calls (caller (load 29 (2 ^ 32 - 8))) (ret ∷ []) 3) ≡ true)
    × (after_calls (caller ret) (load 29 0 ∷ ret ∷ []) 2 ≡ Broken)

-- memory outside, and an address that isn't a multiple of the size
abbrev pub OutsideIsUndefined : Type 0
OutsideIsUndefined =
    (first_step (load 2 0) 0 48 0 0 ≡ Broken) × (first_step (load 2 0) 0 48 (text_start + 16) 0 ≡ Broken)
    × (is_going (first_step (load 2 0) 0 48 (text_start + 12) 0) ≡ true)

abbrev pub MisalignedIsUndefined : Type 0
MisalignedIsUndefined =
    (first_step (load 2 2) 0 48 text_start 0 ≡ Broken)
    × (first_step (instruction MovH (MemReg 2 1 ∷ Reg 4 ∷ [])) 0 48 text_start 0 ≡ Broken)
    × (is_going (first_step (instruction MovH (MemReg 2 2 ∷ Reg 4 ∷ [])) 0 48 text_start 0) ≡ true)

-- sums and differences that don't fit
abbrev pub OverflowIsUndefined : Type 0
OverflowIsUndefined =
    (first_step (instruction Add (Reg 2 ∷ Reg 3 ∷ Reg 4 ∷ [])) 0 48 1 (2 ^ 31 - 1) ≡ Broken)
    × (first_step (instruction Sub (Reg 2 ∷ Reg 3 ∷ Reg 4 ∷ [])) 0 48 1 (2 ^ 31) ≡ Broken)
    × (is_going (first_step (instruction Sub (Reg 2 ∷ Reg 3 ∷ Reg 4 ∷ [])) 0 48 1 (2 ^ 31 + 1)) ≡ true)

-- division by 0, and of the least value by -1
abbrev pub DivisionIsUndefined : Type 0
DivisionIsUndefined =
    (first_step (instruction DivU (Reg 2 ∷ Reg 3 ∷ [])) 0 48 0 5 ≡ Broken)
    × (first_step (instruction Div (Reg 2 ∷ Reg 3 ∷ [])) 0 48 (2 ^ 32 - 1) (2 ^ 31) ≡ Broken)
    × (is_going (first_step (instruction DivU (Reg 2 ∷ Reg 3 ∷ [])) 0 48 (2 ^ 32 - 1) (2 ^ 31)) ≡ true)

-- a call of what is no function
abbrev pub CallOfNoFunction : Type 0
CallOfNoFunction =
    (first_step (instruction Jal (Reg 2 ∷ [])) 4 48 (text_start + 4) 0 ≡ Broken)
    × (is_going (first_step (instruction Jal (Reg 2 ∷ [])) 4 48 text_start 0) ≡ true)

-- an entry below the stack's floor: of a frame of 4 the entry takes 8
abbrev pub FloorIsUndefined : Type 0
FloorIsUndefined = (first_step ret 4 4 0 0 ≡ Broken) × (first_step (load 29 4) 4 7 0 0 ≡ Broken) × (is_going (first_step (load 29 4) 4 8 0 0) ≡ true)

-- a system call at which the machine would halt: its number is in R1, which is 0, and argument words
-- that a call keeps. exits with the address 0 is the end.
abbrev pub system : ℕ → ℕ → Status
system number frame =
    arun_of addresses (function 0 frame (instruction MovW (Const number ∷ Reg 1 ∷ []) ∷ instruction Syscall [] ∷ ret ∷ []) ∷ []) (state_of (registers 0 0 (stack_start + 48))) 2

abbrev pub is_gone : Status → Bool
is_gone (Going r) = false
is_gone (Gone s) = true
is_gone Broken = false

abbrev pub SystemStopIsUndefined : Type 0
SystemStopIsUndefined = (system 9 4 ≡ Broken) × (is_gone (system 8 4) ≡ true)

-- One call over automatics: one automatic at 4(R29) in a frame of 8; what lies at 8(R29) is nobody's,
-- unless an instruction that can be reached names it

abbrev pub over_automatics : List Abs → AFunction
over_automatics code = record { autos = 4 ∷ []; code = code; depth = replicate 8 0 }

abbrev pub two_steps : List Abs → Stop
two_steps code =
    goes (around_call (λ s. 0) (over_automatics code) (record { frame = 8; offsets = Some 4 ∷ [] }) (stack_start + 16) nowhere) code 2
    (record { state = state_of (registers (stack_start + 24) 0 (stack_start + 16)); vars = 0 ∷ []; at = 0 })

abbrev pub is_still : Stop → Bool
is_still (Still x) = true
is_still (Asks to x) = false
is_still (Ends x) = false
is_still (Leaves x) = false
is_still Wrong = false

abbrev pub read_automatic : Abs
read_automatic = instruction MovW (Auto 0 0 ∷ Reg 4 ∷ [])

abbrev pub GapIsUndefined : Type 0
GapIsUndefined =
    (two_steps (read_automatic ∷ load 2 0 ∷ ret ∷ []) ≡ Wrong)
    × (is_still (two_steps (read_automatic ∷ load 2 0 ∷ load 29 8 ∷ ret ∷ [])) ≡ true)
    × (two_steps (read_automatic ∷ load 2 0 ∷ ret ∷ load 29 8 ∷ ret ∷ []) ≡ Wrong)

-- Live ranges

-- 1 is stored in the automatic, which is then read
abbrev pub stored_and_read : List Abs
stored_and_read =
    instruction MovW (Const 1 ∷ Reg 1 ∷ [])
    ∷ instruction MovW (Reg 1 ∷ Auto 0 0 ∷ [])
    ∷ instruction MovW (Auto 0 0 ∷ Reg 2 ∷ [])
    ∷ ret
    ∷ []

abbrev pub at_depth : ℕ → AFunction
at_depth d = record { autos = 4 ∷ []; code = stored_and_read; depth = replicate 4 d }

abbrev pub region : Region
region = record { auto = 0; points = 1 ∷ 2 ∷ [] }

-- it is live at 2 alone; its one region has points 1 and 2; the cost is 2, and at depth 9 that of depth 8
abbrev pub LiveWhereRead : Type 0
LiveWhereRead = (i : ℕ) → IsLive (at_depth 0) 0 i ↔ (i ≡ 2)

abbrev pub RegionOfStoreAndRead : Type 0
RegionOfStoreAndRead = (is_candidate (at_depth 0) 0 ≡ true) × IsRegion (at_depth 0) region

abbrev pub CostByDepth : Type 0
CostByDepth = (cost_of (at_depth 0) region ≡ 2) × (cost_of (at_depth 9) region ≡ 131072)
