-- The lines of each form do what the form does.
use Rattle.std.specs.Prelude.{ℕ, ◌+◌, ◌==◌, ◌≡◌, ◌<◌, Bool, true, false, IsSome, [], length}
use Rattle.p9_base.specs.declared.halt.Ending.TheVariants.{Running}
use Rattle.p9_base.specs.Words.{IsWord}
use Rattle.p9_base.specs.Core.{text_start, reg}
use Rattle.p9_abs.specs.declared.forms.Location.{Location}
use Rattle.p9_abs.specs.declared.forms.Location.TheVariants.{Static, Argument, Frame, Based, Automatic}
use Rattle.p9_abs.specs.declared.forms.Calculation.{Calculation}
use Rattle.p9_abs.specs.declared.forms.Calculation.TheVariants.{Sll, Srl, Sra}
use Rattle.p9_abs.specs.declared.forms.Form.{Form}
use Rattle.p9_abs.specs.declared.forms.Form.TheVariants as forms
use Rattle.p9_abs.specs.Steps.{Mach, Around, acts}
use Rattle.p9_lines.specs.FormLines.{lines_of}
use Rattle.p9_forms.specs.Standing.{Rest, stands, Stand}
use Rattle.p9_forms.specs.Following.{Site, Follows}

-- Registers and numbers of a form: register 28 is not named, and constants are words

abbrev pub IsFree : ℕ → Type 0
IsFree r = (r == 28) ≡ false

abbrev pub IsFineLocation : Location → Type 0
IsFineLocation (Static s o) = Unit {0}
IsFineLocation (Argument o) = Unit {0}
IsFineLocation (Frame o) = Unit {0}
IsFineLocation (Based r o) = IsFree r × IsWord o
IsFineLocation (Automatic v o) = Unit {0}

abbrev pub is_shift : Calculation → Bool
is_shift Sll = true
is_shift Srl = true
is_shift Sra = true
is_shift _ = false

abbrev pub IsFine : Form → Type 0
IsFine (forms.Move w a b) = IsFree a × IsFree b
IsFine (forms.SetConstant c b) = IsWord c × IsFree b
IsFine (forms.SetAddress a b) = IsFineLocation a × IsFree b
IsFine (forms.Load w a b) = IsFineLocation a × IsFree b
IsFine (forms.Store w a b) = IsFineLocation b × IsFree a
IsFine (forms.GetHiLo a b) = IsFree b
IsFine (forms.SetHiLo a b) = IsFree a
IsFine (forms.Calculate k a b c) = IsFree a × IsFree b × IsFree c
IsFine (forms.CalculateConstant k a b c) = IsWord a × IsFree b × IsFree c
IsFine (forms.ShiftConstant k a b c) = (is_shift k ≡ true) × (a < 32) × IsFree b × IsFree c
IsFine (forms.Multiply k a b) = IsFree a × IsFree b
IsFine (forms.BranchPair k a b l) = IsFree a × IsFree b
IsFine (forms.BranchSign k a l) = IsFree a
IsFine (forms.Jump l) = Unit {0}
IsFine (forms.Call s) = Unit {0}
IsFine (forms.CallRegister a) = IsFree a
IsFine forms.Return = Unit {0}
IsFine forms.SystemCall = Unit {0}

abbrev pub is_conditional : Form → Bool
is_conditional (forms.BranchPair k a b l) = true
is_conditional (forms.BranchSign k a l) = true
is_conditional _ = false

-- what is known where an instruction stands: a run that has not ended, registers as they are in every run, no text in
-- memory, and one meaning of the symbols and of R29
pub record IsUsual (h : Site) (around : Around) (form : Form) (x : Mach) : Type 0 where
  pub running : x.state.core.ending ≡ Running
  pub count : length x.state.core.regs ≡ 32
  pub zero_register : reg x.state.core 0 ≡ 0
  pub textless : x.state.core.text_end ≡ text_start
  pub stack : IsWord (reg x.state.core 29)
  pub taken : h.setting.taken ≡ around.taken
  pub small : IsWord around.taken
  pub symbols : (symbol : ℕ) → h.addresses.symbol h.setting.unit symbol ≡ around.symbol symbol
  pub framed : around.offsets ≡ []
  -- the lines, behind which the next instruction's come, and a conditional branch has a goal
  pub there : Stand h.lines h.place h.first (lines_of h.setting h.way form)
  pub next : h.place h.way.next ≡ h.first + length (lines_of h.setting h.way form)
  pub goal : is_conditional form ≡ true → IsSome h.way.goal

abbrev pub FormDoes : Form → Type 0
FormDoes form =
    (h : Site) (around : Around) (x : Mach) (t : ℕ) (k : Rest) → IsUsual h around form x → Follows h form (stands t k x.state h.first) (acts around form x)

-- for every form
abbrev pub FormsDo : Type 0
FormsDo = (form : Form) → IsFine form → FormDoes form
