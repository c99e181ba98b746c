-- Code over automatics: when it is valid, where control goes, what may be reached, which automatics
-- an instruction reads and writes, and which of them are variables, candidates and live.
use Rattle.std.specs.Prelude.{ℕ, zero, suc, ◌+◌, ◌==◌, ◌&&◌, ◌||◌, ◌≡◌, ◌<◌, nat_lt, nat_le, Bool, true, false, not, Option, Some, None, option_and_then, List, [], ◌∷◌, length, slice_get, All}
use Rattle.std.specs.List.{list_all}
use Rattle.p9_abs.specs.declared.instructions.Op.TheVariants.{Jal}
use Rattle.p9_abs.specs.declared.instructions.Operand.{Operand}
use Rattle.p9_abs.specs.declared.instructions.Operand.TheVariants.{Reg, Const, AddrSB, AddrFP, AddrSP, MemSB, MemFP, MemSP, MemReg, Label, Func, Hi, Lo, Auto, AutoAddr}
use Rattle.p9_abs.specs.declared.instructions.Abs.{Abs}
use Rattle.p9_abs.specs.declared.instructions.AFunction.{AFunction}
use Rattle.p9_abs.specs.declared.forms.Location.{Location}
use Rattle.p9_abs.specs.declared.forms.Location.TheVariants.{Static, Argument, Frame, Based, Automatic}
use Rattle.p9_abs.specs.declared.forms.Width.{Width}
use Rattle.p9_abs.specs.declared.forms.Form.{Form}
use Rattle.p9_abs.specs.declared.forms.Form.TheVariants as forms
use Rattle.p9_abs.specs.Forms.{IsForm, decoded}
use Rattle.p9_abs.specs.Validity.{IsRegister, EndsWell, IsWritable, writes_last}
use Rattle.p9_abs.specs.Steps.{bytes_of}

-- Valid code

-- an operand's register, offset, label or automatic is in range among so many automatics and
-- instructions; no operand is counted from R29 at entry
abbrev pub IsOperandOf : (autos count : ℕ) → Operand → Type 0
IsOperandOf autos count (Reg r) = IsRegister r
IsOperandOf autos count (Const c) = Unit {0}
IsOperandOf autos count (AddrSB s o) = Unit {0}
IsOperandOf autos count (AddrFP o) = o < 65536
IsOperandOf autos count (AddrSP o) = ⊥
IsOperandOf autos count (MemSB s o) = Unit {0}
IsOperandOf autos count (MemFP o) = o < 65536
IsOperandOf autos count (MemSP o) = ⊥
IsOperandOf autos count (MemReg r o) = IsRegister r
IsOperandOf autos count (Label l) = l < count
IsOperandOf autos count (Func s) = Unit {0}
IsOperandOf autos count Hi = Unit {0}
IsOperandOf autos count Lo = Unit {0}
IsOperandOf autos count (Auto v o) = v < autos
IsOperandOf autos count (AutoAddr v o) = v < autos

pub record IsInstructionOf (autos count : ℕ) (a : Abs) : Type 0 where
  pub form : IsForm a
  pub operands : All (IsOperandOf autos count) a.operands
  pub destination : writes_last a.op ≡ true → IsWritable a.operands

pub record IsCode (f : AFunction) : Type 0 where
  pub depths : length f.depth ≡ length f.code
  pub ending : EndsWell f.code
  pub instructions : All (IsInstructionOf (length f.autos) (length f.code)) f.code

-- Flow

-- the form of an instruction by its number
abbrev pub form_at : List Abs → ℕ → Option Form
form_at code i = option_and_then decoded (slice_get code i)

-- a test of that form, false where there is none
abbrev pub holds_of : (Form → Bool) → Option Form → Bool
holds_of test None = false
holds_of test (Some form) = test form

-- the next instruction may come after it
abbrev pub falls : Form → Bool
falls (forms.Jump l) = false
falls forms.Return = false
falls _ = true

-- it may go to that label
abbrev pub goes_to : ℕ → Form → Bool
goes_to j (forms.BranchPair k a b l) = l == j
goes_to j (forms.BranchSign k a l) = l == j
goes_to j (forms.Jump l) = l == j
goes_to j _ = false

abbrev pub calls_in : Form → Bool
calls_in (forms.Call s) = true
calls_in (forms.CallRegister a) = true
calls_in _ = false

-- control may go from instruction i to instruction j
abbrev pub flows : List Abs → ℕ → ℕ → Bool
flows code i j = nat_lt j (length code) && holds_of (λ form. (falls form && (j == i + 1)) || goes_to j form) (form_at code i)

-- a call stands there
abbrev pub call_at : List Abs → ℕ → Bool
call_at code i = holds_of calls_in (form_at code i)

-- Reached: from the first instruction, in at most so many steps. More than the code has are none.

-- one of the first m instructions passes the test and flows to j
abbrev pub flows_from : List Abs → (ℕ → Bool) → ℕ → ℕ → Bool
flows_from code from zero j = false
flows_from code from (suc m) j = (from m && flows code m j) || flows_from code from m j

abbrev pub reached_in : ℕ → List Abs → ℕ → Bool
reached_in zero code j = (j == 0) && nat_lt 0 (length code)
reached_in (suc n) code j = reached_in n code j || flows_from code (reached_in n code) (length code) j

-- instruction i can be reached
unfoldable pub reached : List Abs → ℕ → Bool
reached code i = reached_in (length code) code i

-- this way leads from i to k
abbrev pub Along : List Abs → ℕ → List ℕ → ℕ → Type 0
Along code i [] k = i ≡ k
Along code i (j ∷ js) k = (flows code i j ≡ true) × Along code j js k

-- Accesses

abbrev pub is_automatic : ℕ → Location → Bool
is_automatic v (Automatic w o) = w == v
is_automatic v _ = false

-- a location is not of v, or is the whole of its bytes
abbrev pub is_whole : ℕ → ℕ → Width → Location → Bool
is_whole v size width (Automatic w o) = not (w == v) || ((o == 0) && (bytes_of width == size))
is_whole v size width _ = true

abbrev pub reads : ℕ → Form → Bool
reads v (forms.Load w from to) = is_automatic v from
reads v _ = false

abbrev pub writes : ℕ → Form → Bool
writes v (forms.Store w from to) = is_automatic v to
writes v _ = false

-- it doesn't take the address of v, and accesses no part of it
abbrev pub keeps_whole : ℕ → ℕ → Form → Bool
keeps_whole v size (forms.SetAddress a to) = not (is_automatic v a)
keeps_whole v size (forms.Load w from to) = is_whole v size w from
keeps_whole v size (forms.Store w from to) = is_whole v size w to
keeps_whole v size _ = true

-- an instruction that is no form does neither of both
abbrev pub keeps_whole_at : List Abs → ℕ → ℕ → ℕ → Bool
keeps_whole_at code v size i = not (holds_of (λ form. not (keeps_whole v size form)) (form_at code i))

-- all of the first m instructions that pass the test
abbrev pub keep_whole_below : List Abs → ℕ → ℕ → (ℕ → Bool) → ℕ → Bool
keep_whole_below code v size asked zero = true
keep_whole_below code v size asked (suc m) = (not (asked m) || keeps_whole_at code v size m) && keep_whole_below code v size asked m

-- at most 4 bytes, and of the instructions that pass the test none takes its address or accesses a part
abbrev pub is_small_whole : List Abs → ℕ → Option ℕ → (ℕ → Bool) → Bool
is_small_whole code v None asked = false
is_small_whole code v (Some size) asked = nat_le size 4 && keep_whole_below code v size asked (length code)

-- a candidate for a register: no instruction takes its address or accesses a part of it
abbrev pub is_candidate : AFunction → ℕ → Bool
is_candidate f v = is_small_whole f.code v (slice_get f.autos v) (λ i. true)

-- a variable stands outside memory: no instruction that can be reached does so
abbrev pub is_variable : AFunction → ℕ → Bool
is_variable f v = is_small_whole f.code v (slice_get f.autos v) (reached f.code)

abbrev pub reads_at : List Abs → ℕ → ℕ → Bool
reads_at code v i = holds_of (reads v) (form_at code i)

abbrev pub writes_at : List Abs → ℕ → ℕ → Bool
writes_at code v i = holds_of (writes v) (form_at code i)

-- it writes the whole of v
abbrev pub fills : ℕ → ℕ → Form → Bool
fills v size (forms.Store w from to) = is_automatic v to && is_whole v size w to
fills v size _ = false

abbrev pub fills_of_size : List Abs → ℕ → Option ℕ → ℕ → Bool
fills_of_size code v None i = false
fills_of_size code v (Some size) i = holds_of (fills v size) (form_at code i)

abbrev pub fills_at : AFunction → ℕ → ℕ → Bool
fills_at f v i = fills_of_size f.code v (slice_get f.autos v) i

-- Live

-- v is read at the end of this way from i, and no earlier instruction on it writes the whole of v
abbrev pub IsReadAlong : AFunction → ℕ → ℕ → List ℕ → Type 0
IsReadAlong f v i [] = reads_at f.code v i ≡ true
IsReadAlong f v i (j ∷ js) = (fills_at f v i ≡ false) × (flows f.code i j ≡ true) × IsReadAlong f v j js

abbrev pub IsLive : AFunction → ℕ → ℕ → Type 0
IsLive f v i = (way : List ℕ) × IsReadAlong f v i way
