-- The table of forms knows nothing of the numbers of symbols and labels.
use Rattle.std.proofs.Common.{◌≡◌, ℕ, List, [], ◌∷◌, map, refl, ap, ◌∙◌}
use Rattle.std.specs.Prelude.{is_some}
use Rattle.p9_abs.specs.declared.instructions.Op.{Op}
use Rattle.p9_abs.specs.declared.instructions.Op.TheVariants.{MovW, MovH, MovHU, MovB, MovBU, Add, AddU, Sub, SubU, And, Or, Xor, Nor, Sgt, SgtU, Sll, Srl, Sra, Mul, MulU, Div, DivU, Beq, Bne, Bgez, Bgtz, Blez, Bltz, Jmp, Jal, Ret, Syscall}
use Rattle.p9_abs.specs.declared.forms.Location.{Location}
use Rattle.p9_abs.specs.declared.forms.Location.TheVariants.{Static}
use Rattle.p9_abs.specs.declared.forms.OperandKind.{OperandKind}
use Rattle.p9_abs.specs.declared.forms.OperandKind.TheVariants.{Register, Constant, Address, Memory, HiLo, Target, Function}
use Rattle.p9_abs.specs.declared.forms.Width.{Width}
use Rattle.p9_abs.specs.declared.forms.Width.TheVariants as width
use Rattle.p9_abs.specs.declared.forms.Calculation.{Calculation}
use Rattle.p9_abs.specs.declared.forms.Calculation.TheVariants as calculation
use Rattle.p9_abs.specs.declared.forms.Product.{Product}
use Rattle.p9_abs.specs.declared.forms.Product.TheVariants as product
use Rattle.p9_abs.specs.declared.forms.PairTest.{PairTest}
use Rattle.p9_abs.specs.declared.forms.PairTest.TheVariants as pair
use Rattle.p9_abs.specs.declared.forms.SignTest.{SignTest}
use Rattle.p9_abs.specs.declared.forms.SignTest.TheVariants as sign
use Rattle.p9_abs.specs.declared.forms.Form.{Form}
use Rattle.p9_abs.specs.declared.forms.Form.TheVariants as forms
use Rattle.p9_abs.specs.Forms.{operand_kind, word_move, signed_move, unsigned_move, arithmetic, shift, multiply, pair_branch, sign_branch, jump, call, bare, kinds_form, form_of}
use Rattle.p9_statement.specs.declared.operands.Argument as argument
use Rattle.p9_statement.specs.declared.operands.Argument.TheVariants as from
use Rattle.p9_statement.specs.declared.statements.Arguments.{Arguments}
use Rattle.p9_statement.specs.Statements.{listed, shape_of, is_form}
use Rattle.p9_asm.specs.Files.{File}
use Rattle.p9_asm.specs.Code.{operand_of}

abbrev plain_location : Location → Location
plain_location (Static s o) = Static 0 o
plain_location l = l

abbrev plain : OperandKind → OperandKind
plain (Register r) = Register r
plain (Constant c) = Constant c
plain (Address l) = Address (plain_location l)
plain (Memory l) = Memory (plain_location l)
plain (HiLo s) = HiLo s
plain (Target l) = Target 0
plain (Function s) = Function 0

word_plain : (ks : List OperandKind) → is_some (word_move (map plain ks)) ≡ is_some (word_move ks)
word_plain (Register a ∷ Register b ∷ []) = refl
word_plain (Constant c ∷ Register b ∷ []) = refl
word_plain (Address a ∷ Register b ∷ []) = refl
word_plain (Memory a ∷ Register b ∷ []) = refl
word_plain (Register a ∷ Memory b ∷ []) = refl
word_plain (HiLo a ∷ Register b ∷ []) = refl
word_plain (Register a ∷ HiLo b ∷ []) = refl
word_plain _ = refl

signed_plain : (w : Width) (ks : List OperandKind) → is_some (signed_move w (map plain ks)) ≡ is_some (signed_move w ks)
signed_plain w (Register a ∷ Register b ∷ []) = refl
signed_plain w (Memory a ∷ Register b ∷ []) = refl
signed_plain w (Register a ∷ Memory b ∷ []) = refl
signed_plain w _ = refl

unsigned_plain : (w : Width) (ks : List OperandKind) → is_some (unsigned_move w (map plain ks)) ≡ is_some (unsigned_move w ks)
unsigned_plain w (Register a ∷ Register b ∷ []) = refl
unsigned_plain w (Memory a ∷ Register b ∷ []) = refl
unsigned_plain w _ = refl

arithmetic_plain : (k : Calculation) (ks : List OperandKind) → is_some (arithmetic k (map plain ks)) ≡ is_some (arithmetic k ks)
arithmetic_plain k (Register a ∷ Register b ∷ Register c ∷ []) = refl
arithmetic_plain k (Constant a ∷ Register b ∷ Register c ∷ []) = refl
arithmetic_plain k _ = refl

shift_plain : (k : Calculation) (ks : List OperandKind) → is_some (shift k (map plain ks)) ≡ is_some (shift k ks)
shift_plain k (Register a ∷ Register b ∷ Register c ∷ []) = refl
shift_plain k (Constant a ∷ Register b ∷ Register c ∷ []) = refl
shift_plain k _ = refl

multiply_plain : (k : Product) (ks : List OperandKind) → is_some (multiply k (map plain ks)) ≡ is_some (multiply k ks)
multiply_plain k (Register a ∷ Register b ∷ []) = refl
multiply_plain k _ = refl

pair_plain : (k : PairTest) (ks : List OperandKind) → is_some (pair_branch k (map plain ks)) ≡ is_some (pair_branch k ks)
pair_plain k (Register a ∷ Register b ∷ Target l ∷ []) = refl
pair_plain k _ = refl

sign_plain : (k : SignTest) (ks : List OperandKind) → is_some (sign_branch k (map plain ks)) ≡ is_some (sign_branch k ks)
sign_plain k (Register a ∷ Target l ∷ []) = refl
sign_plain k _ = refl

jump_plain : (ks : List OperandKind) → is_some (jump (map plain ks)) ≡ is_some (jump ks)
jump_plain (Target l ∷ []) = refl
jump_plain _ = refl

call_plain : (ks : List OperandKind) → is_some (call (map plain ks)) ≡ is_some (call ks)
call_plain (Function s ∷ []) = refl
call_plain (Register a ∷ []) = refl
call_plain _ = refl

bare_plain : (form : Form) (ks : List OperandKind) → is_some (bare form (map plain ks)) ≡ is_some (bare form ks)
bare_plain form [] = refl
bare_plain form (k ∷ ks) = refl

kinds_plain : (op : Op) (ks : List OperandKind) → is_some (kinds_form op (map plain ks)) ≡ is_some (kinds_form op ks)
kinds_plain MovW ks = word_plain ks
kinds_plain MovH ks = signed_plain width.SignedHalf ks
kinds_plain MovHU ks = unsigned_plain width.UnsignedHalf ks
kinds_plain MovB ks = signed_plain width.SignedByte ks
kinds_plain MovBU ks = unsigned_plain width.UnsignedByte ks
kinds_plain Add ks = arithmetic_plain calculation.Add ks
kinds_plain AddU ks = arithmetic_plain calculation.AddU ks
kinds_plain Sub ks = arithmetic_plain calculation.Sub ks
kinds_plain SubU ks = arithmetic_plain calculation.SubU ks
kinds_plain And ks = arithmetic_plain calculation.And ks
kinds_plain Or ks = arithmetic_plain calculation.Or ks
kinds_plain Xor ks = arithmetic_plain calculation.Xor ks
kinds_plain Nor ks = arithmetic_plain calculation.Nor ks
kinds_plain Sgt ks = arithmetic_plain calculation.Sgt ks
kinds_plain SgtU ks = arithmetic_plain calculation.SgtU ks
kinds_plain Sll ks = shift_plain calculation.Sll ks
kinds_plain Srl ks = shift_plain calculation.Srl ks
kinds_plain Sra ks = shift_plain calculation.Sra ks
kinds_plain Mul ks = multiply_plain product.Mul ks
kinds_plain MulU ks = multiply_plain product.MulU ks
kinds_plain Div ks = multiply_plain product.Div ks
kinds_plain DivU ks = multiply_plain product.DivU ks
kinds_plain Beq ks = pair_plain pair.Equal ks
kinds_plain Bne ks = pair_plain pair.Unequal ks
kinds_plain Bgez ks = sign_plain sign.NotNegative ks
kinds_plain Bgtz ks = sign_plain sign.Positive ks
kinds_plain Blez ks = sign_plain sign.NotPositive ks
kinds_plain Bltz ks = sign_plain sign.Negative ks
kinds_plain Jmp ks = jump_plain ks
kinds_plain Jal ks = call_plain ks
kinds_plain Ret ks = bare_plain forms.Return ks
kinds_plain Syscall ks = bare_plain forms.SystemCall ks

kind_plain : (file : File) (f : ℕ) (a : argument.Argument) → operand_kind (shape_of a) ≡ plain (operand_kind (operand_of file f a))
unfolding operand_of
kind_plain file f (from.Register r) = refl
kind_plain file f (from.Constant c) = refl
kind_plain file f (from.Address s o) = refl
kind_plain file f (from.ArgumentAddress o) = refl
kind_plain file f (from.FrameAddress o) = refl
kind_plain file f (from.Memory s o) = refl
kind_plain file f (from.ArgumentMemory o) = refl
kind_plain file f (from.FrameMemory o) = refl
kind_plain file f (from.RegisterMemory r o) = refl
kind_plain file f (from.Label w) = refl
kind_plain file f (from.Function s) = refl
kind_plain file f from.Hi = refl
kind_plain file f from.Lo = refl

kinds_are_plain : (file : File) (f : ℕ) (given : List argument.Argument) → map operand_kind (map shape_of given) ≡ map plain (map operand_kind (map (operand_of file f) given))
kinds_are_plain file f [] = refl
kinds_are_plain file f (a ∷ rest) =
    ap (λ k. k ∷ map operand_kind (map shape_of rest)) (kind_plain file f a) ∙ ap (λ ks. plain (operand_kind (operand_of file f a)) ∷ ks) (kinds_are_plain file f rest)

pub forms_same : (file : File) (f : ℕ) (op : Op) (given : Arguments) → is_form op given ≡ is_some (form_of op (map (operand_of file f) (listed given)))
forms_same file f op given =
    ap (λ ks. is_some (kinds_form op ks)) (kinds_are_plain file f (listed given)) ∙ kinds_plain op (map operand_kind (map (operand_of file f) (listed given)))
