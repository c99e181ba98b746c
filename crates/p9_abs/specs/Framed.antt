-- Framed code: each automatic in its register or at its offset, with moves at calls and at the entry.
use Rattle.std.specs.Prelude.{ℕ, zero, suc, ◌+◌, ◌-◌, ◌%◌, ◌^◌, ◌==◌, ◌≡◌, ◌≢◌, Bool, true, false, Option, Some, None, List, [], ◌∷◌, ◌++◌, map, length, slice_get, slice_index, All, AllPairs, if◌then◌else◌}
use Rattle.p9_abs.specs.declared.instructions.Op.{Op}
use Rattle.p9_abs.specs.declared.instructions.Op.TheVariants.{MovW, MovH, MovB}
use Rattle.p9_abs.specs.declared.instructions.Operand.{Operand}
use Rattle.p9_abs.specs.declared.instructions.Operand.TheVariants.{Reg, Const, AddrSB, AddrFP, AddrSP, MemSB, MemFP, MemSP, MemReg, Label, Func, Hi, Lo, Auto, AutoAddr}
use Rattle.p9_abs.specs.declared.instructions.Abs.{Abs}
use Rattle.p9_abs.specs.declared.instructions.AFunction.{AFunction}
use Rattle.p9_abs.specs.declared.instructions.TextDef.{TextDef}
use Rattle.p9_abs.specs.declared.regions.Region.{Region}
use Rattle.p9_abs.specs.Validity.{IsFrame}
use Rattle.p9_abs.specs.Automatics.{call_at}
use Rattle.p9_abs.specs.Regions.{home_at}
use Rattle.p9_abs.specs.OneCall.{ArePlaced, size_at}
use Rattle.p9_abs.specs.Runs.{taken_by}

-- a move of an automatic from its offset to a home, or back
pub record Shift : Type 0 where
  pub auto : ℕ
  pub home : ℕ
  pub loads : Bool

-- what framed code has beside the code given: an offset for each automatic, and moves at the entry and
-- directly before and after calls
pub record Plan : Type 0 where
  pub offsets : List ℕ
  pub entry : List Shift
  pub before : ℕ → List Shift
  pub after : ℕ → List Shift

-- Moves

abbrev pub instruction : Op → List Operand → Abs
instruction op operands = record { op = op; operands = operands }

-- the move of so many bytes
abbrev pub move_of_size : ℕ → Op
move_of_size size = if size == 1 then MovB else (if size == 2 then MovH else MovW)

abbrev pub shift_operands : Bool → Operand → Operand → List Operand
shift_operands true memory home = memory ∷ home ∷ []
shift_operands false memory home = home ∷ memory ∷ []

abbrev pub shift_code : AFunction → Plan → Shift → Abs
shift_code f p s =
    instruction (move_of_size (size_at f s.auto))
    (shift_operands s.loads (MemReg 29 (slice_index p.offsets s.auto)) (Reg s.home))

abbrev pub shifts_code : AFunction → Plan → List Shift → List Abs
shifts_code f p shifts = map (shift_code f p) shifts

-- Blocks

-- where a label to an instruction goes: to its block, or to the first of the moves directly before it
abbrev pub start_of : Plan → ℕ → ℕ
start_of p zero = length p.entry
start_of p (suc i) = start_of p i + length (p.before i) + 1 + length (p.after i)

abbrev pub home_or_memory : Option ℕ → ℕ → Operand
home_or_memory None offset = MemReg 29 (offset % 2 ^ 32)
home_or_memory (Some home) offset = Reg home

-- an offset from R29 at entry, of which so much was taken
abbrev pub from_entry : ℕ → ℕ → Operand
from_entry taken offset = AddrSP ((offset + 2 ^ 32 - taken) % 2 ^ 32)

-- an operand of instruction i
abbrev pub framed_operand : List Region → List (Option ℕ) → Plan → (taken i : ℕ) → Operand → Operand
framed_operand rs homes p taken i (Auto v o) = home_or_memory (home_at rs homes v i) (slice_index p.offsets v + o)
framed_operand rs homes p taken i (AutoAddr v o) = from_entry taken (slice_index p.offsets v + o)
framed_operand rs homes p taken i (Label l) = Label (start_of p l)
framed_operand rs homes p taken i (Reg r) = Reg r
framed_operand rs homes p taken i (Const c) = Const c
framed_operand rs homes p taken i (AddrSB s o) = AddrSB s o
framed_operand rs homes p taken i (AddrFP o) = AddrFP o
framed_operand rs homes p taken i (AddrSP o) = AddrSP o
framed_operand rs homes p taken i (MemSB s o) = MemSB s o
framed_operand rs homes p taken i (MemFP o) = MemFP o
framed_operand rs homes p taken i (MemSP o) = MemSP o
framed_operand rs homes p taken i (MemReg r o) = MemReg r o
framed_operand rs homes p taken i (Func s) = Func s
framed_operand rs homes p taken i Hi = Hi
framed_operand rs homes p taken i Lo = Lo

-- instructions from i on, each with its moves
abbrev pub blocks : AFunction → List Region → List (Option ℕ) → Plan → (taken i : ℕ) → List Abs → List Abs
blocks f rs homes p taken i [] = []
blocks f rs homes p taken i (a ∷ rest) =
    shifts_code f p (p.before i) ++ (instruction a.op (map (framed_operand rs homes p taken i) a.operands)
    ∷ (shifts_code f p (p.after i) ++ blocks f rs homes p taken (i + 1) rest))

-- Framed code

-- a move is between a home and an automatic of one of its regions
abbrev pub IsShift : List Region → List (Option ℕ) → Shift → Type 0
IsShift rs homes s = (k : ℕ) × (r : Region) × (slice_get rs k ≡ Some r) × (r.auto ≡ s.auto) × (slice_get homes k ≡ Some (Some s.home))

-- at most one for each home
abbrev pub AreShifts : List Region → List (Option ℕ) → List Shift → Type 0
AreShifts rs homes shifts = All (IsShift rs homes) shifts × AllPairs (λ a b. a.home ≢ b.home) shifts

pub record IsFramed (f : AFunction) (rs : List Region) (homes : List (Option ℕ)) (def : TextDef) (p : Plan) : Type 0 where
  pub frame : IsFrame def.frame
  pub placed : ArePlaced f def.frame (map Some p.offsets)
  pub entry : AreShifts rs homes p.entry
  pub before : (i : ℕ) → AreShifts rs homes (p.before i)
  pub after : (i : ℕ) → AreShifts rs homes (p.after i)
  pub only_at_calls : (i : ℕ) → call_at f.code i ≡ false → (p.before i ≡ []) × (p.after i ≡ [])
  pub code : ◌≡◌ {A = List Abs} def.code (shifts_code f p p.entry ++ blocks f rs homes p (taken_by def) 0 f.code)

-- the code is framed from f, with these homes
abbrev pub Framed : AFunction → List Region → List (Option ℕ) → TextDef → Type 0
Framed f rs homes def = (p : Plan) × IsFramed f rs homes def p
