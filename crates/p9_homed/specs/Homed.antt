-- What a form becomes where automatics have homes or stand in the frame: `homed_form`.
use Rattle.std.specs.Prelude.{ℕ, ◌+◌, ◌-◌, ◌%◌, ◌^◌, ◌≡◌, Option, Some, None, List, map, slice_index}
use Rattle.p9_abs.specs.declared.instructions.Abs.{Abs}
use Rattle.p9_abs.specs.declared.regions.Region.{Region}
use Rattle.p9_abs.specs.declared.forms.Location.{Location}
use Rattle.p9_abs.specs.declared.forms.Location.TheVariants.{Static, Argument, Frame, Based, Automatic}
use Rattle.p9_abs.specs.declared.forms.OperandKind.{OperandKind}
use Rattle.p9_abs.specs.declared.forms.OperandKind.TheVariants.{Register, Constant, Address, Memory, HiLo, Target, Function}
use Rattle.p9_abs.specs.declared.forms.Width.{Width}
use Rattle.p9_abs.specs.declared.forms.Form.{Form}
use Rattle.p9_abs.specs.declared.forms.Form.TheVariants as forms
use Rattle.p9_abs.specs.Forms.{decoded}
use Rattle.p9_abs.specs.Regions.{home_at}
use Rattle.p9_abs.specs.Framed.{Plan, instruction, start_of, framed_operand}

-- where the automatics of an instruction are, and where labels go
pub record Homing : Type 0 where
  pub home : ℕ → Option ℕ
  pub offset : ℕ → ℕ
  pub taken : ℕ
  pub start : ℕ → ℕ

-- Kinds of operands

abbrev pub homed_memory : Option ℕ → ℕ → OperandKind
homed_memory None q = Memory (Based 29 (q % 2 ^ 32))
homed_memory (Some h) q = Register h

abbrev pub frame_address : Homing → ℕ → ℕ → Location
frame_address m v o = Frame ((m.offset v + o + 2 ^ 32 - m.taken) % 2 ^ 32)

abbrev pub homed_kind : Homing → OperandKind → OperandKind
homed_kind m (Memory (Automatic v o)) = homed_memory (m.home v) (m.offset v + o)
homed_kind m (Memory (Static s o)) = Memory (Static s o)
homed_kind m (Memory (Argument o)) = Memory (Argument o)
homed_kind m (Memory (Frame o)) = Memory (Frame o)
homed_kind m (Memory (Based r o)) = Memory (Based r o)
homed_kind m (Address (Automatic v o)) = Address (frame_address m v o)
homed_kind m (Address (Static s o)) = Address (Static s o)
homed_kind m (Address (Argument o)) = Address (Argument o)
homed_kind m (Address (Frame o)) = Address (Frame o)
homed_kind m (Address (Based r o)) = Address (Based r o)
homed_kind m (Target l) = Target (m.start l)
homed_kind m (Register r) = Register r
homed_kind m (Constant c) = Constant c
homed_kind m (HiLo s) = HiLo s
homed_kind m (Function s) = Function s

-- Forms

abbrev pub homed_load : Width → Option ℕ → (q r : ℕ) → Form
homed_load w None q r = forms.Load w (Based 29 (q % 2 ^ 32)) r
homed_load w (Some h) q r = forms.Move w h r

abbrev pub homed_store : Width → (r : ℕ) → Option ℕ → ℕ → Form
homed_store w r None q = forms.Store w r (Based 29 (q % 2 ^ 32))
homed_store w r (Some h) q = forms.Move w r h

abbrev pub homed_form : Homing → Form → Form
homed_form m (forms.Load w (Automatic v o) r) = homed_load w (m.home v) (m.offset v + o) r
homed_form m (forms.Load w (Static s o) r) = forms.Load w (Static s o) r
homed_form m (forms.Load w (Argument o) r) = forms.Load w (Argument o) r
homed_form m (forms.Load w (Frame o) r) = forms.Load w (Frame o) r
homed_form m (forms.Load w (Based b o) r) = forms.Load w (Based b o) r
homed_form m (forms.Store w r (Automatic v o)) = homed_store w r (m.home v) (m.offset v + o)
homed_form m (forms.Store w r (Static s o)) = forms.Store w r (Static s o)
homed_form m (forms.Store w r (Argument o)) = forms.Store w r (Argument o)
homed_form m (forms.Store w r (Frame o)) = forms.Store w r (Frame o)
homed_form m (forms.Store w r (Based b o)) = forms.Store w r (Based b o)
homed_form m (forms.SetAddress (Automatic v o) r) = forms.SetAddress (frame_address m v o) r
homed_form m (forms.SetAddress (Static s o) r) = forms.SetAddress (Static s o) r
homed_form m (forms.SetAddress (Argument o) r) = forms.SetAddress (Argument o) r
homed_form m (forms.SetAddress (Frame o) r) = forms.SetAddress (Frame o) r
homed_form m (forms.SetAddress (Based b o) r) = forms.SetAddress (Based b o) r
homed_form m (forms.BranchPair k a b l) = forms.BranchPair k a b (m.start l)
homed_form m (forms.BranchSign k a l) = forms.BranchSign k a (m.start l)
homed_form m (forms.Jump l) = forms.Jump (m.start l)
homed_form m (forms.Move w a b) = forms.Move w a b
homed_form m (forms.SetConstant c b) = forms.SetConstant c b
homed_form m (forms.GetHiLo a b) = forms.GetHiLo a b
homed_form m (forms.SetHiLo a b) = forms.SetHiLo a b
homed_form m (forms.Calculate k a b c) = forms.Calculate k a b c
homed_form m (forms.CalculateConstant k a b c) = forms.CalculateConstant k a b c
homed_form m (forms.ShiftConstant k a b c) = forms.ShiftConstant k a b c
homed_form m (forms.Multiply k a b) = forms.Multiply k a b
homed_form m (forms.Call s) = forms.Call s
homed_form m (forms.CallRegister a) = forms.CallRegister a
homed_form m forms.Return = forms.Return
homed_form m forms.SystemCall = forms.SystemCall

-- Instructions of framed code

abbrev pub homing_at : List Region → List (Option ℕ) → Plan → (taken i : ℕ) → Homing
homing_at rs homes p taken i = record { home = λ v. home_at rs homes v i; offset = λ v. slice_index p.offsets v; taken = taken; start = start_of p }

abbrev pub framed_instruction : List Region → List (Option ℕ) → Plan → (taken i : ℕ) → Abs → Abs
framed_instruction rs homes p taken i a = instruction a.op (map (framed_operand rs homes p taken i) a.operands)

-- an instruction of framed code has the form that its own becomes
abbrev pub HomedForms : Type 0
HomedForms =
    (rs : List Region) (homes : List (Option ℕ)) (p : Plan) (taken i : ℕ) (a : Abs) (form : Form) → decoded a ≡ Some form →
    decoded (framed_instruction rs homes p taken i a) ≡ Some (homed_form (homing_at rs homes p taken i) form)
