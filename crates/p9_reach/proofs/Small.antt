-- The registers of a program's instructions are below 32, and their constants are words.
use Rattle.std.proofs.Common.{ℕ, ◌≡◌, ◌<◌, nat_lt, Bool, true, false, Option, Some, None, List, [], ◌∷◌, length, map, refl, subst, All, if◌then◌else◌, arith}
use Rattle.std.specs.Prelude.{slice_get}
use Rattle.std.proofs.lemmas.List.Elements.{All-head, All-tail}
use Rattle.std.proofs.lemmas.Bool.Decides.{nat_tests}
use Rattle.p9_abs.specs.declared.instructions.Op.{Op}
use Rattle.p9_abs.specs.declared.instructions.Op.TheVariants as ops
use Rattle.p9_abs.specs.declared.instructions.Operand.{Operand}
use Rattle.p9_abs.specs.declared.instructions.Operand.TheVariants.{Reg, Const, AddrSB, AddrFP, AddrSP, MemSB, MemFP, MemSP, MemReg, Label, Func, Hi, Lo, Auto, AutoAddr}
use Rattle.p9_abs.specs.declared.instructions.Abs.{Abs}
use Rattle.p9_abs.specs.declared.modules.AModule.{AModule}
use Rattle.p9_abs.specs.declared.forms.OperandKind.{OperandKind}
use Rattle.p9_abs.specs.declared.forms.OperandKind.TheVariants.{Register, Constant, Address, Memory, HiLo, Target, Function}
use Rattle.p9_abs.specs.declared.forms.Location.{Location}
use Rattle.p9_abs.specs.declared.forms.Location.TheVariants.{Static, Argument, Frame, Based, Automatic}
use Rattle.p9_abs.specs.declared.forms.Width.{Width}
use Rattle.p9_abs.specs.declared.forms.Width.TheVariants as width
use Rattle.p9_abs.specs.declared.forms.Calculation.{Calculation}
use Rattle.p9_abs.specs.declared.forms.Calculation.TheVariants as calculation
use Rattle.p9_abs.specs.declared.forms.Product.{Product}
use Rattle.p9_abs.specs.declared.forms.Product.TheVariants as product
use Rattle.p9_abs.specs.declared.forms.PairTest.{PairTest}
use Rattle.p9_abs.specs.declared.forms.PairTest.TheVariants as pair
use Rattle.p9_abs.specs.declared.forms.SignTest.{SignTest}
use Rattle.p9_abs.specs.declared.forms.SignTest.TheVariants as sign
use Rattle.p9_abs.specs.declared.forms.Form.{Form}
use Rattle.p9_abs.specs.declared.forms.Form.TheVariants as forms
use Rattle.p9_abs.specs.Forms.{operand_kind, word_move, signed_move, unsigned_move, arithmetic, shift, multiply, pair_branch, sign_branch, jump, call, bare, kinds_form, decoded}
use Rattle.p9_abs.specs.Runs.{Routine}
use Rattle.p9_abs.specs.Programs.{routines_of}
use Rattle.p9_abs.specs.Validity.{IsInRange, IsInstruction}
use Rattle.p9_object.specs.Laws.{IsObject}
use Rattle.p9_expand.proofs.Valid.{IsSound, all_sound}
use Rattle.p9_refine.proofs.Numbers.{all-at}
use Rattle.p9_refine.proofs.Fine.{all-valid}

abbrev pub IsRegister : ℕ → Type 0
IsRegister r = r < 32

abbrev pub IsSmallLocation : Location → Type 0
IsSmallLocation (Static s o) = Unit {0}
IsSmallLocation (Argument o) = Unit {0}
IsSmallLocation (Frame o) = Unit {0}
IsSmallLocation (Based r o) = IsRegister r
IsSmallLocation (Automatic v o) = Unit {0}

-- the registers of a form, and the count of a shift
abbrev pub IsSmall : Form → Type 0
IsSmall (forms.Move w a b) = IsRegister a × IsRegister b
IsSmall (forms.SetConstant c b) = IsRegister b
IsSmall (forms.SetAddress a b) = IsSmallLocation a × IsRegister b
IsSmall (forms.Load w a b) = IsSmallLocation a × IsRegister b
IsSmall (forms.Store w a b) = IsSmallLocation b × IsRegister a
IsSmall (forms.GetHiLo a b) = IsRegister b
IsSmall (forms.SetHiLo a b) = IsRegister a
IsSmall (forms.Calculate k a b c) = IsRegister a × IsRegister b × IsRegister c
IsSmall (forms.CalculateConstant k a b c) = IsRegister b × IsRegister c
IsSmall (forms.ShiftConstant k a b c) = (a < 32) × IsRegister b × IsRegister c
IsSmall (forms.Multiply k a b) = IsRegister a × IsRegister b
IsSmall (forms.BranchPair k a b l) = IsRegister a × IsRegister b
IsSmall (forms.BranchSign k a l) = IsRegister a
IsSmall (forms.Jump l) = Unit {0}
IsSmall (forms.Call s) = Unit {0}
IsSmall (forms.CallRegister a) = IsRegister a
IsSmall forms.Return = Unit {0}
IsSmall forms.SystemCall = Unit {0}

-- Kinds of operands

abbrev SmallKind : OperandKind → Type 0
SmallKind (Register r) = IsRegister r
SmallKind (Constant c) = Unit {0}
SmallKind (Address l) = IsSmallLocation l
SmallKind (Memory l) = IsSmallLocation l
SmallKind (HiLo s) = Unit {0}
SmallKind (Target l) = Unit {0}
SmallKind (Function s) = Unit {0}

abbrev AreSmall : List OperandKind → Type 0
AreSmall [] = Unit {0}
AreSmall (k ∷ ks) = SmallKind k × AreSmall ks

operand-small : (frame count : ℕ) (o : Operand) → IsInRange frame count o → SmallKind (operand_kind o)
operand-small frame count (Reg r) h = h.0
operand-small frame count (Const c) h = tt
operand-small frame count (AddrSB s o) h = tt
operand-small frame count (AddrFP o) h = tt
operand-small frame count (AddrSP o) h = tt
operand-small frame count (MemSB s o) h = tt
operand-small frame count (MemFP o) h = tt
operand-small frame count (MemSP o) h = tt
operand-small frame count (MemReg r o) h = h.0
operand-small frame count (Label l) h = tt
operand-small frame count (Func s) h = tt
operand-small frame count Hi h = tt
operand-small frame count Lo h = tt
operand-small frame count (Auto v o) h = absurd h
operand-small frame count (AutoAddr v o) h = absurd h

operands-small : (frame count : ℕ) (os : List Operand) → All (IsInRange frame count) os → AreSmall (map operand_kind os)
operands-small frame count [] h = tt
operands-small frame count (o ∷ os) h = (
  operand-small frame count o (All-head (IsInRange frame count) o os h),
  operands-small frame count os (All-tail (IsInRange frame count) o os h),
)

-- Forms

abbrev SmallForm : Option Form → Type 0
SmallForm None = Unit {0}
SmallForm (Some form) = IsSmall form

word-small : (ks : List OperandKind) → AreSmall ks → SmallForm (word_move ks)
word-small (Register a ∷ Register b ∷ []) h = (h.0, h.1.0)
word-small (Constant c ∷ Register b ∷ []) h = h.1.0
word-small (Address a ∷ Register b ∷ []) h = (h.0, h.1.0)
word-small (Memory a ∷ Register b ∷ []) h = (h.0, h.1.0)
word-small (Register a ∷ Memory b ∷ []) h = (h.1.0, h.0)
word-small (HiLo a ∷ Register b ∷ []) h = h.1.0
word-small (Register a ∷ HiLo b ∷ []) h = h.0
word-small _ h = tt

signed-small : (w : Width) (ks : List OperandKind) → AreSmall ks → SmallForm (signed_move w ks)
signed-small w (Register a ∷ Register b ∷ []) h = (h.0, h.1.0)
signed-small w (Memory a ∷ Register b ∷ []) h = (h.0, h.1.0)
signed-small w (Register a ∷ Memory b ∷ []) h = (h.1.0, h.0)
signed-small w _ h = tt

unsigned-small : (w : Width) (ks : List OperandKind) → AreSmall ks → SmallForm (unsigned_move w ks)
unsigned-small w (Register a ∷ Register b ∷ []) h = (h.0, h.1.0)
unsigned-small w (Memory a ∷ Register b ∷ []) h = (h.0, h.1.0)
unsigned-small w _ h = tt

arithmetic-small : (k : Calculation) (ks : List OperandKind) → AreSmall ks → SmallForm (arithmetic k ks)
arithmetic-small k (Register a ∷ Register b ∷ Register c ∷ []) h = (h.0, h.1.0, h.1.1.0)
arithmetic-small k (Constant a ∷ Register b ∷ Register c ∷ []) h = (h.1.0, h.1.1.0)
arithmetic-small k _ h = tt

constant-shift : (k : Calculation) (a b c : ℕ) → IsRegister b → IsRegister c → SmallForm (if nat_lt a 32 then Some (forms.ShiftConstant k a b c) else None)
constant-shift k a b c hb hc = by (nat_lt a 32) refl
  where
    by : (t : Bool) → nat_lt a 32 ≡ t → SmallForm (if t then Some (forms.ShiftConstant k a b c) else None)
    by true e = ((let small : a < 32 = grind (arith, nat_tests) in small), hb, hc)
    by false e = tt

shift-small : (k : Calculation) (ks : List OperandKind) → AreSmall ks → SmallForm (shift k ks)
shift-small k (Register a ∷ Register b ∷ Register c ∷ []) h = (h.0, h.1.0, h.1.1.0)
shift-small k (Constant a ∷ Register b ∷ Register c ∷ []) h = constant-shift k a b c h.1.0 h.1.1.0
shift-small k _ h = tt

multiply-small : (k : Product) (ks : List OperandKind) → AreSmall ks → SmallForm (multiply k ks)
multiply-small k (Register a ∷ Register b ∷ []) h = (h.0, h.1.0)
multiply-small k _ h = tt

pair-small : (k : PairTest) (ks : List OperandKind) → AreSmall ks → SmallForm (pair_branch k ks)
pair-small k (Register a ∷ Register b ∷ Target l ∷ []) h = (h.0, h.1.0)
pair-small k _ h = tt

sign-small : (k : SignTest) (ks : List OperandKind) → AreSmall ks → SmallForm (sign_branch k ks)
sign-small k (Register a ∷ Target l ∷ []) h = h.0
sign-small k _ h = tt

jump-small : (ks : List OperandKind) → AreSmall ks → SmallForm (jump ks)
jump-small (Target l ∷ []) h = tt
jump-small _ h = tt

call-small : (ks : List OperandKind) → AreSmall ks → SmallForm (call ks)
call-small (Function s ∷ []) h = tt
call-small (Register a ∷ []) h = h.0
call-small _ h = tt

return-small : (ks : List OperandKind) → SmallForm (bare forms.Return ks)
return-small [] = tt
return-small (k ∷ ks) = tt

system-small : (ks : List OperandKind) → SmallForm (bare forms.SystemCall ks)
system-small [] = tt
system-small (k ∷ ks) = tt

kinds-small : (op : Op) (ks : List OperandKind) → AreSmall ks → SmallForm (kinds_form op ks)
kinds-small ops.MovW ks h = word-small ks h
kinds-small ops.MovH ks h = signed-small width.SignedHalf ks h
kinds-small ops.MovHU ks h = unsigned-small width.UnsignedHalf ks h
kinds-small ops.MovB ks h = signed-small width.SignedByte ks h
kinds-small ops.MovBU ks h = unsigned-small width.UnsignedByte ks h
kinds-small ops.Add ks h = arithmetic-small calculation.Add ks h
kinds-small ops.AddU ks h = arithmetic-small calculation.AddU ks h
kinds-small ops.Sub ks h = arithmetic-small calculation.Sub ks h
kinds-small ops.SubU ks h = arithmetic-small calculation.SubU ks h
kinds-small ops.And ks h = arithmetic-small calculation.And ks h
kinds-small ops.Or ks h = arithmetic-small calculation.Or ks h
kinds-small ops.Xor ks h = arithmetic-small calculation.Xor ks h
kinds-small ops.Nor ks h = arithmetic-small calculation.Nor ks h
kinds-small ops.Sgt ks h = arithmetic-small calculation.Sgt ks h
kinds-small ops.SgtU ks h = arithmetic-small calculation.SgtU ks h
kinds-small ops.Sll ks h = shift-small calculation.Sll ks h
kinds-small ops.Srl ks h = shift-small calculation.Srl ks h
kinds-small ops.Sra ks h = shift-small calculation.Sra ks h
kinds-small ops.Mul ks h = multiply-small product.Mul ks h
kinds-small ops.MulU ks h = multiply-small product.MulU ks h
kinds-small ops.Div ks h = multiply-small product.Div ks h
kinds-small ops.DivU ks h = multiply-small product.DivU ks h
kinds-small ops.Beq ks h = pair-small pair.Equal ks h
kinds-small ops.Bne ks h = pair-small pair.Unequal ks h
kinds-small ops.Bgez ks h = sign-small sign.NotNegative ks h
kinds-small ops.Bgtz ks h = sign-small sign.Positive ks h
kinds-small ops.Blez ks h = sign-small sign.NotPositive ks h
kinds-small ops.Bltz ks h = sign-small sign.Negative ks h
kinds-small ops.Jmp ks h = jump-small ks h
kinds-small ops.Jal ks h = call-small ks h
kinds-small ops.Ret ks h = return-small ks
kinds-small ops.Syscall ks h = system-small ks

-- each instruction of a program has small registers, and is of a form that the laws speak of
pub all-small : (modules : List AModule) (f k : ℕ) (r : Routine) (a : Abs) (form : Form) → All IsObject modules → slice_get (routines_of modules) f ≡ Some r →
    slice_get r.def.code k ≡ Some a → decoded a ≡ Some form → IsSmall form
all-small modules f k r a form objects e there decodes =
    let sound : IsSound r = all-at IsSound (routines_of modules) f r (all_sound modules (all-valid modules objects)) e in
    let i : IsInstruction r.def.frame (length r.def.code) a = all-at (IsInstruction r.def.frame (length r.def.code)) r.def.code k a sound.instructions there in
    let small : SmallForm (decoded a) = kinds-small a.op (map operand_kind a.operands) (operands-small r.def.frame (length r.def.code) a.operands i.operands) in
    subst SmallForm decodes small
