-- The machine lines of each form of abstract instruction, of a function's entry, and of the start. R28 is a temporary
-- of each by itself. A line's target is the number of an instruction.
use Rattle.std.specs.Prelude.{ℕ, ◌+◌, ◌-◌, ◌/◌, ◌%◌, ◌^◌, ◌==◌, nat_lt, Bool, false, Option, Some, None, if◌then◌else◌, List, [], ◌∷◌, ◌++◌}
use Rattle.p9_abs.specs.declared.forms.Location.{Location}
use Rattle.p9_abs.specs.declared.forms.Location.TheVariants.{Static, Argument, Frame, Based, Automatic}
use Rattle.p9_abs.specs.declared.forms.Width.{Width}
use Rattle.p9_abs.specs.declared.forms.Width.TheVariants.{Word, SignedHalf, UnsignedHalf, SignedByte, UnsignedByte}
use Rattle.p9_abs.specs.declared.forms.Calculation.{Calculation}
use Rattle.p9_abs.specs.declared.forms.Calculation.TheVariants.{Sll, Srl, Sra}
use Rattle.p9_abs.specs.declared.forms.Form.{Form}
use Rattle.p9_abs.specs.declared.forms.Form.TheVariants as forms
use Rattle.p9_r3k.specs.declared.inst.Inst.{Inst}
use Rattle.p9_r3k.specs.declared.inst.Inst.TheVariants as i
use Rattle.p9_r3k.specs.declared.lines.Line.{Line}
use Rattle.p9_r3k.specs.declared.lines.Part.{Part}
use Rattle.p9_r3k.specs.declared.lines.Part.TheVariants.{High, Low}
use Rattle.p9_lines.specs.declared.parts.Access.{Access}
use Rattle.p9_lines.specs.declared.parts.Access.TheVariants.{Load, Store, Address}
use Rattle.p9_lines.specs.declared.parts.Setting.{Setting}
use Rattle.p9_lines.specs.declared.parts.Way.{Way}
use Rattle.p9_lines.specs.Insts.{access_inst, get_special, set_special, calculation, product, pair_branch, sign_branch, other_pair, other_sign}

-- Lines

abbrev pub plain : Inst → Line
plain inst = record { inst = inst; target = None; value = None; is_target = false }

abbrev pub going_to : Inst → ℕ → Line
going_to inst goal = record { inst = inst; target = Some goal; value = None; is_target = false }

-- a line with a piece of the address of a module's symbol and an offset
abbrev pub valued : Inst → Part → (unit symbol offset : ℕ) → Line
valued inst part unit symbol offset =
    record { inst = inst; target = None; value = Some (record { part = part; «module» = unit; symbol = symbol; offset = offset }); is_target = false }

-- BREAK stands for what a run that is defined doesn't reach
abbrev pub stop : List Line
stop = plain (i.Break 0) ∷ []

-- Constants

-- a word that is the sign extension of its low half
abbrev pub is_near : ℕ → Bool
is_near o = nat_lt ((o + 2 ^ 15) % 2 ^ 32) (2 ^ 16)

-- the half that gives the word, with the sign extension of the low half added
abbrev pub high_of : ℕ → ℕ
high_of o = (o + 2 ^ 15) / 2 ^ 16 % 2 ^ 16

abbrev pub upper_of : ℕ → ℕ
upper_of o = o / 2 ^ 16

abbrev pub low_of : ℕ → ℕ
low_of o = o % 2 ^ 16

-- by LUI alone, or by LUI and ORI
abbrev pub wide_lines : (c to : ℕ) → List Line
wide_lines c to =
    if low_of c == 0 then plain (i.Lui to (upper_of c)) ∷ []
    else plain (i.Lui 28 (upper_of c)) ∷ plain (i.Ori 28 to (low_of c)) ∷ []

abbrev pub constant_lines : (c to : ℕ) → List Line
constant_lines c to =
    if is_near c then plain (i.Addiu 0 to (low_of c)) ∷ []
    else (if nat_lt c (2 ^ 16) then plain (i.Ori 0 to c) ∷ [] else wide_lines c to)

-- Memory and addresses

-- at a register's value and an offset
abbrev pub near_lines : Access → (base offset : ℕ) → List Line
near_lines access base o =
    if is_near o then plain (access_inst access base (low_of o)) ∷ []
    else plain (i.Lui 28 (high_of o)) ∷ plain (i.Addu base 28 28) ∷ plain (access_inst access 28 (low_of o)) ∷ []

-- at the address of a symbol and an offset, which is completed in a register first
abbrev pub symbol_lines : (unit symbol offset to : ℕ) → List Line
symbol_lines unit symbol o to =
    valued (i.Lui 28 0) High unit symbol o ∷ valued (i.Ori 28 to 0) Low unit symbol o ∷ []

abbrev pub static_lines : Access → (unit symbol offset : ℕ) → List Line
static_lines (Load width to) unit symbol o = symbol_lines unit symbol o 28 ++ plain (access_inst (Load width to) 28 0) ∷ []
static_lines (Store width from) unit symbol o = symbol_lines unit symbol o 28 ++ plain (access_inst (Store width from) 28 0) ∷ []
static_lines (Address to) unit symbol o = symbol_lines unit symbol o to

-- o(FP) and o(SP) are counted from R29 as it stands in the function
abbrev pub access_lines : Setting → Access → Location → List Line
access_lines g access (Static symbol o) = static_lines access g.unit symbol o
access_lines g access (Argument o) = near_lines access 29 ((g.taken + 4 + o) % 2 ^ 32)
access_lines g access (Frame o) = near_lines access 29 ((g.taken + o) % 2 ^ 32)
access_lines g access (Based r o) = near_lines access r o
access_lines g access (Automatic v o) = stop

-- Registers

abbrev pub move_lines : Width → (from to : ℕ) → List Line
move_lines Word from to = plain (i.Or from 0 to) ∷ []
move_lines SignedHalf from to = plain (i.Sll from 28 16) ∷ plain (i.Sra 28 to 16) ∷ []
move_lines UnsignedHalf from to = plain (i.Andi from to 65535) ∷ []
move_lines SignedByte from to = plain (i.Sll from 28 24) ∷ plain (i.Sra 28 to 24) ∷ []
move_lines UnsignedByte from to = plain (i.Andi from to 255) ∷ []

-- only shifts have a form with a constant count
abbrev pub shift_lines : Calculation → (count from to : ℕ) → List Line
shift_lines Sll count from to = plain (i.Sll from to count) ∷ []
shift_lines Srl count from to = plain (i.Srl from to count) ∷ []
shift_lines Sra count from to = plain (i.Sra from to count) ∷ []
shift_lines _ count from to = stop

-- Ways

abbrev pub jump_lines : Inst → Option ℕ → List Line
jump_lines inst None = stop
jump_lines inst (Some goal) = going_to inst goal ∷ []

-- a branch whose goal is out of reach becomes the other branch over a jump
abbrev pub branch_lines : Way → (branch other : Inst) → List Line
branch_lines w branch other =
    if w.short then jump_lines branch w.goal
    else going_to other w.next ∷ jump_lines (i.J 0) w.goal

-- The frame

-- R29 goes up
abbrev pub raise_lines : ℕ → List Line
raise_lines n =
    if nat_lt n (2 ^ 15) then plain (i.Addiu 29 29 n) ∷ []
    else constant_lines n 28 ++ plain (i.Addu 29 28 29) ∷ []

-- R29 goes down
abbrev pub lower_lines : ℕ → List Line
lower_lines n =
    if nat_lt n (2 ^ 15) then plain (i.Addiu 29 29 ((2 ^ 16 - n) % 2 ^ 16)) ∷ []
    else constant_lines n 28 ++ plain (i.Subu 29 28 29) ∷ []

-- the entry takes the frame from R29 and keeps the return address at 0(R29), or leaves it in R31
abbrev pub entry_lines : Setting → List Line
entry_lines g = if g.keeps then lower_lines g.taken ++ plain (i.Sw 29 31 0) ∷ [] else []

abbrev pub return_lines : Setting → List Line
return_lines g =
    if g.keeps then plain (i.Lw 29 31 0) ∷ (raise_lines g.taken ++ plain (i.Jr 31) ∷ [])
    else plain (i.Jr 31) ∷ []

-- Forms

abbrev pub lines_of : Setting → Way → Form → List Line
lines_of g w (forms.Move width from to) = move_lines width from to
lines_of g w (forms.SetConstant c to) = constant_lines c to
lines_of g w (forms.SetAddress a to) = access_lines g (Address to) a
lines_of g w (forms.Load width a to) = access_lines g (Load width to) a
lines_of g w (forms.Store width from a) = access_lines g (Store width from) a
lines_of g w (forms.GetHiLo special to) = plain (get_special special to) ∷ []
lines_of g w (forms.SetHiLo from special) = plain (set_special from special) ∷ []
lines_of g w (forms.Calculate by a b c) = plain (calculation by a b c) ∷ []
lines_of g w (forms.CalculateConstant by a b c) = constant_lines a 28 ++ plain (calculation by 28 b c) ∷ []
lines_of g w (forms.ShiftConstant by a b c) = shift_lines by a b c
lines_of g w (forms.Multiply by a b) = plain (product by a b) ∷ []
lines_of g w (forms.BranchPair test a b l) = branch_lines w (pair_branch test a b) (pair_branch (other_pair test) a b)
lines_of g w (forms.BranchSign test a l) = branch_lines w (sign_branch test a) (sign_branch (other_sign test) a)
lines_of g w (forms.Jump l) = jump_lines (i.J 0) w.goal
lines_of g w (forms.Call s) = jump_lines (i.Jal 0) w.goal
lines_of g w (forms.CallRegister a) = plain (i.Jalr a 31) ∷ []
lines_of g w forms.Return = return_lines g
lines_of g w forms.SystemCall = plain (i.Syscall 0) ∷ []

-- The start of a program: R30 gets the address of a symbol and an offset

abbrev pub start_lines : (unit symbol offset : ℕ) → List Line
start_lines unit symbol o =
    valued (i.Lui 30 0) High unit symbol o ∷ valued (i.Ori 30 30 0) Low unit symbol o ∷ []
