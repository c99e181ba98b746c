-- A form tells its operands: `parts`. Only SYSCALL is a system call, and RET and JMP don't go on.
use Rattle.std.proofs.Common.{ℕ, ◌≡◌, ◌≢◌, nat_lt, Bool, true, false, Option, Some, None, refl, ap, ◌∙◌, subst, List, [], ◌∷◌, if◌then◌else◌}
use Rattle.std.proofs.lemmas.Option.{none-some}
use Rattle.p9_abs.specs.declared.instructions.Op.{Op}
use Rattle.p9_abs.specs.declared.instructions.Op.TheVariants.{MovW, MovH, MovHU, MovB, MovBU, Add, AddU, Sub, SubU, And, Or, Xor, Nor, Sgt, SgtU, Sll, Srl, Sra, Mul, MulU, Div, DivU, Beq, Bne, Bgez, Bgtz, Blez, Bltz, Jmp, Jal, Ret, Syscall}
use Rattle.p9_abs.specs.declared.forms.OperandKind.{OperandKind}
use Rattle.p9_abs.specs.declared.forms.OperandKind.TheVariants.{Register, Constant, Address, Memory, HiLo, Target, Function}
use Rattle.p9_abs.specs.declared.forms.Width.{Width}
use Rattle.p9_abs.specs.declared.forms.Width.TheVariants as width
use Rattle.p9_abs.specs.declared.forms.Calculation.{Calculation}
use Rattle.p9_abs.specs.declared.forms.Calculation.TheVariants as calculation
use Rattle.p9_abs.specs.declared.forms.Product.{Product}
use Rattle.p9_abs.specs.declared.forms.Product.TheVariants as product
use Rattle.p9_abs.specs.declared.forms.PairTest.{PairTest}
use Rattle.p9_abs.specs.declared.forms.PairTest.TheVariants as pair
use Rattle.p9_abs.specs.declared.forms.SignTest.{SignTest}
use Rattle.p9_abs.specs.declared.forms.SignTest.TheVariants as sign
use Rattle.p9_abs.specs.declared.forms.Form.{Form}
use Rattle.p9_abs.specs.declared.forms.Form.TheVariants as forms
use Rattle.p9_abs.specs.Forms.{word_move, signed_move, unsigned_move, arithmetic, shift, multiply, pair_branch, sign_branch, jump, call, bare, kinds_form}
use Rattle.p9_abs.specs.Automatics.{falls}

-- the operands of a form
abbrev pub parts : Form → List OperandKind
parts (forms.Move w a b) = Register a ∷ Register b ∷ []
parts (forms.SetConstant c b) = Constant c ∷ Register b ∷ []
parts (forms.SetAddress a b) = Address a ∷ Register b ∷ []
parts (forms.Load w a b) = Memory a ∷ Register b ∷ []
parts (forms.Store w a b) = Register a ∷ Memory b ∷ []
parts (forms.GetHiLo a b) = HiLo a ∷ Register b ∷ []
parts (forms.SetHiLo a b) = Register a ∷ HiLo b ∷ []
parts (forms.Calculate k a b c) = Register a ∷ Register b ∷ Register c ∷ []
parts (forms.CalculateConstant k a b c) = Constant a ∷ Register b ∷ Register c ∷ []
parts (forms.ShiftConstant k a b c) = Constant a ∷ Register b ∷ Register c ∷ []
parts (forms.Multiply k a b) = Register a ∷ Register b ∷ []
parts (forms.BranchPair k a b l) = Register a ∷ Register b ∷ Target l ∷ []
parts (forms.BranchSign k a l) = Register a ∷ Target l ∷ []
parts (forms.Jump l) = Target l ∷ []
parts (forms.Call s) = Function s ∷ []
parts (forms.CallRegister a) = Register a ∷ []
parts forms.Return = []
parts forms.SystemCall = []

-- it is no system call
abbrev pub IsSilent : Form → Type 0
IsSilent forms.SystemCall = ⊥
IsSilent _ = Unit {0}

-- what a row gives
abbrev Tells : List OperandKind → Form → Type 0
Tells kinds form = (kinds ≡ parts form) × IsSilent form

abbrev TellsOf : (List OperandKind → Option Form) → Type 0
TellsOf row = (kinds : List OperandKind) (form : Form) → row kinds ≡ Some form → (kinds ≡ parts form) × IsSilent form

tells : (a form : Form) → Some a ≡ Some form → IsSilent a → (parts a ≡ parts form) × IsSilent form
tells a form e silent = let q : a ≡ form = cc in (ap parts q, subst IsSilent q silent)

word : TellsOf word_move
word (Register a ∷ Register b ∷ []) form e = tells _ form e tt
word (Constant c ∷ Register b ∷ []) form e = tells _ form e tt
word (Address a ∷ Register b ∷ []) form e = tells _ form e tt
word (Memory a ∷ Register b ∷ []) form e = tells _ form e tt
word (Register a ∷ Memory b ∷ []) form e = tells _ form e tt
word (HiLo a ∷ Register b ∷ []) form e = tells _ form e tt
word (Register a ∷ HiLo b ∷ []) form e = tells _ form e tt
word _ form e = absurd (none-some form e)

signed : (w : Width) → TellsOf (signed_move w)
signed w (Register a ∷ Register b ∷ []) form e = tells _ form e tt
signed w (Memory a ∷ Register b ∷ []) form e = tells _ form e tt
signed w (Register a ∷ Memory b ∷ []) form e = tells _ form e tt
signed w _ form e = absurd (none-some form e)

unsigned : (w : Width) → TellsOf (unsigned_move w)
unsigned w (Register a ∷ Register b ∷ []) form e = tells _ form e tt
unsigned w (Memory a ∷ Register b ∷ []) form e = tells _ form e tt
unsigned w _ form e = absurd (none-some form e)

calculates : (k : Calculation) → TellsOf (arithmetic k)
calculates k (Register a ∷ Register b ∷ Register c ∷ []) form e = tells _ form e tt
calculates k (Constant a ∷ Register b ∷ Register c ∷ []) form e = tells _ form e tt
calculates k _ form e = absurd (none-some form e)

small-shift : (k : Calculation) (a b c : ℕ) (form : Form) (t : Bool) → (if t then Some (forms.ShiftConstant k a b c) else None) ≡ Some form →
    (Constant a ∷ Register b ∷ Register c ∷ [] ≡ parts form) × IsSilent form
small-shift k a b c form true e = tells _ form e tt
small-shift k a b c form false e = absurd (none-some form e)

shifts : (k : Calculation) → TellsOf (shift k)
shifts k (Register a ∷ Register b ∷ Register c ∷ []) form e = tells _ form e tt
shifts k (Constant a ∷ Register b ∷ Register c ∷ []) form e = small-shift k a b c form (nat_lt a 32) e
shifts k _ form e = absurd (none-some form e)

multiplies : (k : Product) → TellsOf (multiply k)
multiplies k (Register a ∷ Register b ∷ []) form e = tells _ form e tt
multiplies k _ form e = absurd (none-some form e)

pairs : (k : PairTest) → TellsOf (pair_branch k)
pairs k (Register a ∷ Register b ∷ Target l ∷ []) form e = tells _ form e tt
pairs k _ form e = absurd (none-some form e)

signs : (k : SignTest) → TellsOf (sign_branch k)
signs k (Register a ∷ Target l ∷ []) form e = tells _ form e tt
signs k _ form e = absurd (none-some form e)

jumps : TellsOf jump
jumps (Target l ∷ []) form e = tells _ form e tt
jumps _ form e = absurd (none-some form e)

calls : TellsOf call
calls (Function s ∷ []) form e = tells _ form e tt
calls (Register a ∷ []) form e = tells _ form e tt
calls _ form e = absurd (none-some form e)

returns : TellsOf (bare forms.Return)
returns [] form e = tells _ form e tt
returns _ form e = absurd (none-some form e)

system-calls : (kinds : List OperandKind) (form : Form) → bare forms.SystemCall kinds ≡ Some form → kinds ≡ parts form
system-calls [] form e = ap parts (let q : forms.SystemCall ≡ form = cc in q)
system-calls _ form e = absurd (none-some form e)

-- the operands of an instruction are those of its form, and it is a system call only by SYSCALL
abbrev pub IsToldBy : Op → List OperandKind → Form → Type 0
IsToldBy op kinds form = (kinds ≡ parts form) × (op ≢ Syscall → IsSilent form)

told : (op : Op) (kinds : List OperandKind) (form : Form) → (kinds ≡ parts form) × IsSilent form → IsToldBy op kinds form
told op kinds form h = (h.0, λ ne. h.1)

pub form-parts : (op : Op) (kinds : List OperandKind) (form : Form) → kinds_form op kinds ≡ Some form → IsToldBy op kinds form
form-parts MovW kinds form e = told _ kinds form (word kinds form e)
form-parts MovH kinds form e = told _ kinds form (signed width.SignedHalf kinds form e)
form-parts MovHU kinds form e = told _ kinds form (unsigned width.UnsignedHalf kinds form e)
form-parts MovB kinds form e = told _ kinds form (signed width.SignedByte kinds form e)
form-parts MovBU kinds form e = told _ kinds form (unsigned width.UnsignedByte kinds form e)
form-parts Add kinds form e = told _ kinds form (calculates calculation.Add kinds form e)
form-parts AddU kinds form e = told _ kinds form (calculates calculation.AddU kinds form e)
form-parts Sub kinds form e = told _ kinds form (calculates calculation.Sub kinds form e)
form-parts SubU kinds form e = told _ kinds form (calculates calculation.SubU kinds form e)
form-parts And kinds form e = told _ kinds form (calculates calculation.And kinds form e)
form-parts Or kinds form e = told _ kinds form (calculates calculation.Or kinds form e)
form-parts Xor kinds form e = told _ kinds form (calculates calculation.Xor kinds form e)
form-parts Nor kinds form e = told _ kinds form (calculates calculation.Nor kinds form e)
form-parts Sgt kinds form e = told _ kinds form (calculates calculation.Sgt kinds form e)
form-parts SgtU kinds form e = told _ kinds form (calculates calculation.SgtU kinds form e)
form-parts Sll kinds form e = told _ kinds form (shifts calculation.Sll kinds form e)
form-parts Srl kinds form e = told _ kinds form (shifts calculation.Srl kinds form e)
form-parts Sra kinds form e = told _ kinds form (shifts calculation.Sra kinds form e)
form-parts Mul kinds form e = told _ kinds form (multiplies product.Mul kinds form e)
form-parts MulU kinds form e = told _ kinds form (multiplies product.MulU kinds form e)
form-parts Div kinds form e = told _ kinds form (multiplies product.Div kinds form e)
form-parts DivU kinds form e = told _ kinds form (multiplies product.DivU kinds form e)
form-parts Beq kinds form e = told _ kinds form (pairs pair.Equal kinds form e)
form-parts Bne kinds form e = told _ kinds form (pairs pair.Unequal kinds form e)
form-parts Bgez kinds form e = told _ kinds form (signs sign.NotNegative kinds form e)
form-parts Bgtz kinds form e = told _ kinds form (signs sign.Positive kinds form e)
form-parts Blez kinds form e = told _ kinds form (signs sign.NotPositive kinds form e)
form-parts Bltz kinds form e = told _ kinds form (signs sign.Negative kinds form e)
form-parts Jmp kinds form e = told _ kinds form (jumps kinds form e)
form-parts Jal kinds form e = told _ kinds form (calls kinds form e)
form-parts Ret kinds form e = told _ kinds form (returns kinds form e)
form-parts Syscall kinds form e = (system-calls kinds form e, λ ne. absurd (ne refl))

-- The last instruction

falls-not : (a form : Form) → Some a ≡ Some form → falls a ≡ false → falls form ≡ false
falls-not a form e h = ap falls (let q : form ≡ a = cc in q) ∙ h

pub return-ends : (kinds : List OperandKind) (form : Form) → kinds_form Ret kinds ≡ Some form → falls form ≡ false
return-ends [] form e = falls-not _ form e refl
return-ends (k ∷ kinds) form e = absurd (none-some form e)

pub jump-ends : (kinds : List OperandKind) (form : Form) → kinds_form Jmp kinds ≡ Some form → falls form ≡ false
jump-ends (Target l ∷ []) form e = falls-not _ form e refl
jump-ends _ form e = absurd (none-some form e)
