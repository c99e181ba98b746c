-- The instructions of objects are of forms that the laws of lines speak of.
use Rattle.std.proofs.Common.{ℕ, zero, suc, ◌==◌, ◌≡◌, ◌<◌, nat_lt, Bool, true, false, Option, Some, None, List, [], ◌∷◌, ◌++◌, length, map, refl, subst, All, flat_map, if◌then◌else◌, arith}
use Rattle.std.specs.Prelude.{slice_get}
use Rattle.std.proofs.lemmas.List.Elements.{All-nil, All-cons, All-head, All-tail, All-append, All-weaker, All-from_recursion}
use Rattle.std.proofs.lemmas.Option.{none-some, same_Some}
use Rattle.std.proofs.lemmas.Bool.Decides.{nat_tests}
use Rattle.p9_base.specs.Words.{IsWord}
use Rattle.p9_abs.specs.declared.instructions.Op.{Op}
use Rattle.p9_abs.specs.declared.instructions.Op.TheVariants as ops
use Rattle.p9_abs.specs.declared.instructions.Operand.{Operand}
use Rattle.p9_abs.specs.declared.instructions.Operand.TheVariants.{Reg, Const, AddrSB, AddrFP, AddrSP, MemSB, MemFP, MemSP, MemReg, Label, Func, Hi, Lo, Auto, AutoAddr}
use Rattle.p9_abs.specs.declared.instructions.Abs.{Abs}
use Rattle.p9_abs.specs.declared.modules.AModule.{AModule}
use Rattle.p9_abs.specs.declared.modules.Symbol.{Symbol}
use Rattle.p9_abs.specs.declared.forms.OperandKind.{OperandKind}
use Rattle.p9_abs.specs.declared.forms.OperandKind.TheVariants.{Register, Constant, Address, Memory, HiLo, Target, Function}
use Rattle.p9_abs.specs.declared.forms.Width.{Width}
use Rattle.p9_abs.specs.declared.forms.Width.TheVariants as width
use Rattle.p9_abs.specs.declared.forms.Calculation.{Calculation}
use Rattle.p9_abs.specs.declared.forms.Calculation.TheVariants as calculation
use Rattle.p9_abs.specs.declared.forms.Product.{Product}
use Rattle.p9_abs.specs.declared.forms.Product.TheVariants as product
use Rattle.p9_abs.specs.declared.forms.PairTest.{PairTest}
use Rattle.p9_abs.specs.declared.forms.PairTest.TheVariants as pair
use Rattle.p9_abs.specs.declared.forms.SignTest.{SignTest}
use Rattle.p9_abs.specs.declared.forms.SignTest.TheVariants as sign
use Rattle.p9_abs.specs.declared.forms.Form.{Form}
use Rattle.p9_abs.specs.declared.forms.Form.TheVariants as forms
use Rattle.p9_abs.specs.Forms.{operand_kind, word_move, signed_move, unsigned_move, arithmetic, shift, multiply, pair_branch, sign_branch, jump, call, bare, kinds_form, decoded}
use Rattle.p9_abs.specs.Modules.{operands_of}
use Rattle.p9_abs.specs.BuiltIn.{start_code, system_code, builtin_symbols, builtin_module, linked}
use Rattle.p9_abs.specs.Runs.{Routine}
use Rattle.p9_abs.specs.Programs.{routines_of}
use Rattle.p9_abs.specs.Validity.{IsInRange, IsInstruction, IsValid}
use Rattle.p9_object.specs.Laws.{OperandFits, IsObject}
use Rattle.p9_forms.specs.Laws.{IsFree, IsFineLocation, is_shift, IsFine}
use Rattle.p9_expand.proofs.Valid.{IsSound, all_sound}
use Rattle.p9_refine.proofs.Numbers.{all-at}
use Rattle.p9_refine.proofs.Own.{HasSymbol, symbols-found, symbol-in}

-- Kinds of operands

-- a label is an instruction of so many
abbrev FineKind : ℕ → OperandKind → Type 0
FineKind count (Register r) = IsFree r
FineKind count (Constant c) = IsWord c
FineKind count (Address l) = IsFineLocation l
FineKind count (Memory l) = IsFineLocation l
FineKind count (HiLo s) = Unit {0}
FineKind count (Target l) = l < count
FineKind count (Function s) = Unit {0}

abbrev AreFine : ℕ → List OperandKind → Type 0
AreFine count [] = Unit {0}
AreFine count (k ∷ ks) = FineKind count k × AreFine count ks

free-register : (r : ℕ) → (r ≡ 28 → ⊥) → IsFree r
free-register r h = by (r == 28) refl
  where
    by : (b : Bool) → (r == 28) ≡ b → b ≡ false
    by false e = refl
    by true e = absurd (h (let s : r ≡ 28 = grind (arith, nat_tests) in s))

operand-fine : (frame count : ℕ) (o : Operand) → IsInRange frame count o → OperandFits o → FineKind count (operand_kind o)
operand-fine frame count (Reg r) h f = free-register r h.3
operand-fine frame count (Const c) h f = f
operand-fine frame count (AddrSB s o) h f = tt
operand-fine frame count (AddrFP o) h f = tt
operand-fine frame count (AddrSP o) h f = tt
operand-fine frame count (MemSB s o) h f = tt
operand-fine frame count (MemFP o) h f = tt
operand-fine frame count (MemSP o) h f = tt
operand-fine frame count (MemReg r o) h f = (free-register r h.3, f)
operand-fine frame count (Label l) h f = h
operand-fine frame count (Func s) h f = tt
operand-fine frame count Hi h f = tt
operand-fine frame count Lo h f = tt
operand-fine frame count (Auto v o) h f = absurd h
operand-fine frame count (AutoAddr v o) h f = absurd h

operands-fine : (frame count : ℕ) (os : List Operand) → All (IsInRange frame count) os → All OperandFits os → AreFine count (map operand_kind os)
operands-fine frame count [] h f = tt
operands-fine frame count (o ∷ os) h f = (
  operand-fine frame count o (All-head (IsInRange frame count) o os h) (All-head OperandFits o os f),
  operands-fine frame count os (All-tail (IsInRange frame count) o os h) (All-tail OperandFits o os f),
)

-- Forms

-- the label of a form is one of so many instructions
abbrev pub LabelWithin : ℕ → Form → Type 0
LabelWithin count (forms.BranchPair k a b l) = l < count
LabelWithin count (forms.BranchSign k a l) = l < count
LabelWithin count (forms.Jump l) = l < count
LabelWithin count _ = Unit {0}

abbrev FineForm : ℕ → Option Form → Type 0
FineForm count None = Unit {0}
FineForm count (Some form) = IsFine form × LabelWithin count form

word-fine : (n : ℕ) (ks : List OperandKind) → AreFine n ks → FineForm n (word_move ks)
word-fine n (Register a ∷ Register b ∷ []) h = ((h.0, h.1.0), tt)
word-fine n (Constant c ∷ Register b ∷ []) h = ((h.0, h.1.0), tt)
word-fine n (Address a ∷ Register b ∷ []) h = ((h.0, h.1.0), tt)
word-fine n (Memory a ∷ Register b ∷ []) h = ((h.0, h.1.0), tt)
word-fine n (Register a ∷ Memory b ∷ []) h = ((h.1.0, h.0), tt)
word-fine n (HiLo a ∷ Register b ∷ []) h = (h.1.0, tt)
word-fine n (Register a ∷ HiLo b ∷ []) h = (h.0, tt)
word-fine n _ h = tt

signed-fine : (n : ℕ) (w : Width) (ks : List OperandKind) → AreFine n ks → FineForm n (signed_move w ks)
signed-fine n w (Register a ∷ Register b ∷ []) h = ((h.0, h.1.0), tt)
signed-fine n w (Memory a ∷ Register b ∷ []) h = ((h.0, h.1.0), tt)
signed-fine n w (Register a ∷ Memory b ∷ []) h = ((h.1.0, h.0), tt)
signed-fine n w _ h = tt

unsigned-fine : (n : ℕ) (w : Width) (ks : List OperandKind) → AreFine n ks → FineForm n (unsigned_move w ks)
unsigned-fine n w (Register a ∷ Register b ∷ []) h = ((h.0, h.1.0), tt)
unsigned-fine n w (Memory a ∷ Register b ∷ []) h = ((h.0, h.1.0), tt)
unsigned-fine n w _ h = tt

arithmetic-fine : (n : ℕ) (k : Calculation) (ks : List OperandKind) → AreFine n ks → FineForm n (arithmetic k ks)
arithmetic-fine n k (Register a ∷ Register b ∷ Register c ∷ []) h = ((h.0, h.1.0, h.1.1.0), tt)
arithmetic-fine n k (Constant a ∷ Register b ∷ Register c ∷ []) h = ((h.0, h.1.0, h.1.1.0), tt)
arithmetic-fine n k _ h = tt

constant-shift : (n : ℕ) (k : Calculation) (a b c : ℕ) → is_shift k ≡ true → IsFree b → IsFree c → FineForm n (if nat_lt a 32 then Some (forms.ShiftConstant k a b c) else None)
constant-shift n k a b c s hb hc = by (nat_lt a 32) refl
  where
    by : (t : Bool) → nat_lt a 32 ≡ t → FineForm n (if t then Some (forms.ShiftConstant k a b c) else None)
    by true e = ((s, (let small : a < 32 = grind (arith, nat_tests) in small), hb, hc), tt)
    by false e = tt

shift-fine : (n : ℕ) (k : Calculation) (ks : List OperandKind) → is_shift k ≡ true → AreFine n ks → FineForm n (shift k ks)
shift-fine n k (Register a ∷ Register b ∷ Register c ∷ []) s h = ((h.0, h.1.0, h.1.1.0), tt)
shift-fine n k (Constant a ∷ Register b ∷ Register c ∷ []) s h = constant-shift n k a b c s h.1.0 h.1.1.0
shift-fine n k _ s h = tt

multiply-fine : (n : ℕ) (k : Product) (ks : List OperandKind) → AreFine n ks → FineForm n (multiply k ks)
multiply-fine n k (Register a ∷ Register b ∷ []) h = ((h.0, h.1.0), tt)
multiply-fine n k _ h = tt

pair-fine : (n : ℕ) (k : PairTest) (ks : List OperandKind) → AreFine n ks → FineForm n (pair_branch k ks)
pair-fine n k (Register a ∷ Register b ∷ Target l ∷ []) h = ((h.0, h.1.0), h.1.1.0)
pair-fine n k _ h = tt

sign-fine : (n : ℕ) (k : SignTest) (ks : List OperandKind) → AreFine n ks → FineForm n (sign_branch k ks)
sign-fine n k (Register a ∷ Target l ∷ []) h = (h.0, h.1.0)
sign-fine n k _ h = tt

jump-fine : (n : ℕ) (ks : List OperandKind) → AreFine n ks → FineForm n (jump ks)
jump-fine n (Target l ∷ []) h = (tt, h.0)
jump-fine n _ h = tt

call-fine : (n : ℕ) (ks : List OperandKind) → AreFine n ks → FineForm n (call ks)
call-fine n (Function s ∷ []) h = (tt, tt)
call-fine n (Register a ∷ []) h = (h.0, tt)
call-fine n _ h = tt

return-fine : (n : ℕ) (ks : List OperandKind) → FineForm n (bare forms.Return ks)
return-fine n [] = (tt, tt)
return-fine n (k ∷ ks) = tt

system-fine : (n : ℕ) (ks : List OperandKind) → FineForm n (bare forms.SystemCall ks)
system-fine n [] = (tt, tt)
system-fine n (k ∷ ks) = tt

kinds-fine : (n : ℕ) (op : Op) (ks : List OperandKind) → AreFine n ks → FineForm n (kinds_form op ks)
kinds-fine n ops.MovW ks h = word-fine n ks h
kinds-fine n ops.MovH ks h = signed-fine n width.SignedHalf ks h
kinds-fine n ops.MovHU ks h = unsigned-fine n width.UnsignedHalf ks h
kinds-fine n ops.MovB ks h = signed-fine n width.SignedByte ks h
kinds-fine n ops.MovBU ks h = unsigned-fine n width.UnsignedByte ks h
kinds-fine n ops.Add ks h = arithmetic-fine n calculation.Add ks h
kinds-fine n ops.AddU ks h = arithmetic-fine n calculation.AddU ks h
kinds-fine n ops.Sub ks h = arithmetic-fine n calculation.Sub ks h
kinds-fine n ops.SubU ks h = arithmetic-fine n calculation.SubU ks h
kinds-fine n ops.And ks h = arithmetic-fine n calculation.And ks h
kinds-fine n ops.Or ks h = arithmetic-fine n calculation.Or ks h
kinds-fine n ops.Xor ks h = arithmetic-fine n calculation.Xor ks h
kinds-fine n ops.Nor ks h = arithmetic-fine n calculation.Nor ks h
kinds-fine n ops.Sgt ks h = arithmetic-fine n calculation.Sgt ks h
kinds-fine n ops.SgtU ks h = arithmetic-fine n calculation.SgtU ks h
kinds-fine n ops.Sll ks h = shift-fine n calculation.Sll ks refl h
kinds-fine n ops.Srl ks h = shift-fine n calculation.Srl ks refl h
kinds-fine n ops.Sra ks h = shift-fine n calculation.Sra ks refl h
kinds-fine n ops.Mul ks h = multiply-fine n product.Mul ks h
kinds-fine n ops.MulU ks h = multiply-fine n product.MulU ks h
kinds-fine n ops.Div ks h = multiply-fine n product.Div ks h
kinds-fine n ops.DivU ks h = multiply-fine n product.DivU ks h
kinds-fine n ops.Beq ks h = pair-fine n pair.Equal ks h
kinds-fine n ops.Bne ks h = pair-fine n pair.Unequal ks h
kinds-fine n ops.Bgez ks h = sign-fine n sign.NotNegative ks h
kinds-fine n ops.Bgtz ks h = sign-fine n sign.Positive ks h
kinds-fine n ops.Blez ks h = sign-fine n sign.NotPositive ks h
kinds-fine n ops.Bltz ks h = sign-fine n sign.Negative ks h
kinds-fine n ops.Jmp ks h = jump-fine n ks h
kinds-fine n ops.Jal ks h = call-fine n ks h
kinds-fine n ops.Ret ks h = return-fine n ks
kinds-fine n ops.Syscall ks h = system-fine n ks

-- Objects

all-first : {X : Type 0} (P : X → Type 0) (xs ys : List X) → All P (xs ++ ys) → All P xs
all-first P [] ys h = All-nil P
all-first P (x ∷ xs) ys h = All-cons P x xs (All-head P x (xs ++ ys) h) (all-first P xs ys (All-tail P x (xs ++ ys) h))

all-rest : {X : Type 0} (P : X → Type 0) (xs ys : List X) → All P (xs ++ ys) → All P ys
all-rest P [] ys h = h
all-rest P (x ∷ xs) ys h = all-rest P xs ys (All-tail P x (xs ++ ys) h)

each-fits : (code : List Abs) (k : ℕ) (a : Abs) → All OperandFits (flat_map (λ (b : Abs). b.operands) code) → slice_get code k ≡ Some a → All OperandFits a.operands
each-fits [] k a h e = absurd (none-some a e)
each-fits (b ∷ rest) zero a h e =
    subst (λ (x : Abs). All OperandFits x.operands) (same_Some b a e) (all-first OperandFits b.operands (flat_map (λ (b : Abs). b.operands) rest) h)
each-fits (b ∷ rest) (suc k) a h e = each-fits rest k a (all-rest OperandFits b.operands (flat_map (λ (b : Abs). b.operands) rest) h) e

abbrev SymbolFits : Symbol → Type 0
SymbolFits s = All OperandFits (operands_of s.body)

abbrev ModuleFits : AModule → Type 0
ModuleFits m = All SymbolFits m.symbols

start-fits : All OperandFits (flat_map (λ (b : Abs). b.operands) start_code)
start-fits =
    All-from_recursion OperandFits (flat_map (λ (b : Abs). b.operands) start_code)
    (omega arith, (tt, (tt, (omega arith, (omega arith, (tt, (tt, (omega arith, (tt, (tt, tt))))))))))

system-fits : (number : ℕ) → IsWord number → All OperandFits (flat_map (λ (b : Abs). b.operands) (system_code number))
system-fits number small = All-from_recursion OperandFits (flat_map (λ (b : Abs). b.operands) (system_code number)) (tt, (tt, (small, (tt, tt))))

no-operands : All OperandFits []
no-operands = All-nil OperandFits

builtin-fits : ModuleFits builtin_module
builtin-fits =
    All-from_recursion SymbolFits builtin_symbols
    (start-fits, (no-operands, (no-operands, (no-operands, (system-fits 8 (omega arith), (system-fits 15 (omega arith), (system-fits 20 (omega arith), (no-operands, tt))))))))

pub all-valid : (modules : List AModule) → All IsObject modules → All IsValid modules
all-valid modules h = All-weaker IsObject IsValid (λ m v. v.valid) modules h

linked-fit : (modules : List AModule) → All IsObject modules → All ModuleFits (linked modules)
linked-fit modules h =
    All-append ModuleFits modules (builtin_module ∷ []) (All-weaker IsObject ModuleFits (λ m v. v.fits.operands) modules h)
    (All-cons ModuleFits builtin_module [] builtin-fits (All-nil ModuleFits))

-- each instruction of a program is of a form that the laws speak of, and its label is an instruction
pub all-fine : (modules : List AModule) (f k : ℕ) (r : Routine) (a : Abs) (form : Form) → All IsObject modules → slice_get (routines_of modules) f ≡ Some r →
    slice_get r.def.code k ≡ Some a → decoded a ≡ Some form → IsFine form × LabelWithin (length r.def.code) form
all-fine modules f k r a form objects e there decodes =
    let h : HasSymbol (linked modules) r = symbols-found modules f r e in
    let m = symbol-in (slice_get (linked modules) r.unit) r.symbol h.symbol h.stands in
    let module_fits : ModuleFits m.0 = all-at ModuleFits (linked modules) r.unit m.0 (linked-fit modules objects) m.1 in
    let symbol_fits : SymbolFits h.symbol = all-at SymbolFits m.0.symbols r.symbol h.symbol module_fits m.2 in
    let fits : All OperandFits a.operands = each-fits r.def.code k a (subst (λ b. All OperandFits (operands_of b)) h.text symbol_fits) there in
    let sound : IsSound r = all-at IsSound (routines_of modules) f r (all_sound modules (all-valid modules objects)) e in
    let i : IsInstruction r.def.frame (length r.def.code) a = all-at (IsInstruction r.def.frame (length r.def.code)) r.def.code k a sound.instructions there in
    let fine : FineForm (length r.def.code) (decoded a) =
    kinds-fine (length r.def.code) a.op (map operand_kind a.operands) (operands-fine r.def.frame (length r.def.code) a.operands i.operands fits) in
    subst (FineForm (length r.def.code)) decodes fine
