-- The table of abstract instructions: the numbers of operations and operands, the forms that each
-- operation has, and what each form weighs in machine words.
use Rattle.std.specs.Prelude.{ℕ, nat_lt, if◌then◌else◌, List, [], ◌∷◌, Option, Some, None, IsSome, map, option_map, unwrap_or}
use Rattle.p9_abs.specs.declared.instructions.Op.{Op}
use Rattle.p9_abs.specs.declared.instructions.Op.TheVariants.{MovW, MovH, MovHU, MovB, MovBU, Add, AddU, Sub, SubU, And, Or, Xor, Nor, Sgt, SgtU, Sll, Srl, Sra, Mul, MulU, Div, DivU, Beq, Bne, Bgez, Bgtz, Blez, Bltz, Jmp, Jal, Ret, Syscall}
use Rattle.p9_abs.specs.declared.instructions.Operand.{Operand}
use Rattle.p9_abs.specs.declared.instructions.Operand.TheVariants.{Reg, Const, AddrSB, AddrFP, AddrSP, MemSB, MemFP, MemSP, MemReg, Label, Func, Hi, Lo, Auto, AutoAddr}
use Rattle.p9_abs.specs.declared.instructions.Abs.{Abs}
use Rattle.p9_abs.specs.declared.forms.Location.TheVariants.{Static, Argument, Frame, Based, Automatic}
use Rattle.p9_abs.specs.declared.forms.Special.TheVariants as special
use Rattle.p9_abs.specs.declared.forms.OperandKind.{OperandKind}
use Rattle.p9_abs.specs.declared.forms.OperandKind.TheVariants.{Register, Constant, Address, Memory, HiLo, Target, Function}
use Rattle.p9_abs.specs.declared.forms.Width.{Width}
use Rattle.p9_abs.specs.declared.forms.Width.TheVariants as width
use Rattle.p9_abs.specs.declared.forms.Calculation.{Calculation}
use Rattle.p9_abs.specs.declared.forms.Calculation.TheVariants as calculation
use Rattle.p9_abs.specs.declared.forms.Product.{Product}
use Rattle.p9_abs.specs.declared.forms.Product.TheVariants as product
use Rattle.p9_abs.specs.declared.forms.PairTest.{PairTest}
use Rattle.p9_abs.specs.declared.forms.PairTest.TheVariants as pair
use Rattle.p9_abs.specs.declared.forms.SignTest.{SignTest}
use Rattle.p9_abs.specs.declared.forms.SignTest.TheVariants as sign
use Rattle.p9_abs.specs.declared.forms.Form.{Form}
use Rattle.p9_abs.specs.declared.forms.Form.TheVariants as forms

-- Operands

-- an operand by its kind: an automatic is a memory operand, and its address an address
abbrev pub operand_kind : Operand → OperandKind
operand_kind (Reg r) = Register r
operand_kind (Const c) = Constant c
operand_kind (AddrSB s o) = Address (Static s o)
operand_kind (AddrFP o) = Address (Argument o)
operand_kind (AddrSP o) = Address (Frame o)
operand_kind (MemSB s o) = Memory (Static s o)
operand_kind (MemFP o) = Memory (Argument o)
operand_kind (MemSP o) = Memory (Frame o)
operand_kind (MemReg r o) = Memory (Based r o)
operand_kind (Label l) = Target l
operand_kind (Func s) = Function s
operand_kind Hi = HiLo special.Hi
operand_kind Lo = HiLo special.Lo
operand_kind (Auto v o) = Memory (Automatic v o)
operand_kind (AutoAddr v o) = Address (Automatic v o)

-- The rows of the table: the form that the operands are, and None where they are none

-- a word is moved from anywhere to a register, and from a register to memory, HI or LO
abbrev pub word_move : List OperandKind → Option Form
word_move (Register a ∷ Register b ∷ []) = Some (forms.Move width.Word a b)
word_move (Constant c ∷ Register b ∷ []) = Some (forms.SetConstant c b)
word_move (Address a ∷ Register b ∷ []) = Some (forms.SetAddress a b)
word_move (Memory a ∷ Register b ∷ []) = Some (forms.Load width.Word a b)
word_move (Register a ∷ Memory b ∷ []) = Some (forms.Store width.Word a b)
word_move (HiLo a ∷ Register b ∷ []) = Some (forms.GetHiLo a b)
word_move (Register a ∷ HiLo b ∷ []) = Some (forms.SetHiLo a b)
word_move _ = None

-- a part of a word, sign extended where it goes to a register
abbrev pub signed_move : Width → List OperandKind → Option Form
signed_move w (Register a ∷ Register b ∷ []) = Some (forms.Move w a b)
signed_move w (Memory a ∷ Register b ∷ []) = Some (forms.Load w a b)
signed_move w (Register a ∷ Memory b ∷ []) = Some (forms.Store w a b)
signed_move w _ = None

-- a part of a word, zero extended
abbrev pub unsigned_move : Width → List OperandKind → Option Form
unsigned_move w (Register a ∷ Register b ∷ []) = Some (forms.Move w a b)
unsigned_move w (Memory a ∷ Register b ∷ []) = Some (forms.Load w a b)
unsigned_move w _ = None

-- two sources and a destination
abbrev pub arithmetic : Calculation → List OperandKind → Option Form
arithmetic k (Register a ∷ Register b ∷ Register c ∷ []) = Some (forms.Calculate k a b c)
arithmetic k (Constant a ∷ Register b ∷ Register c ∷ []) = Some (forms.CalculateConstant k a b c)
arithmetic k _ = None

-- a shift by a constant is by 0 to 31
abbrev pub shift : Calculation → List OperandKind → Option Form
shift k (Register a ∷ Register b ∷ Register c ∷ []) = Some (forms.Calculate k a b c)
shift k (Constant a ∷ Register b ∷ Register c ∷ []) = if nat_lt a 32 then Some (forms.ShiftConstant k a b c) else None
shift k _ = None

-- two sources, whose product or quotient goes to HI and LO
abbrev pub multiply : Product → List OperandKind → Option Form
multiply k (Register a ∷ Register b ∷ []) = Some (forms.Multiply k a b)
multiply k _ = None

abbrev pub pair_branch : PairTest → List OperandKind → Option Form
pair_branch k (Register a ∷ Register b ∷ Target l ∷ []) = Some (forms.BranchPair k a b l)
pair_branch k _ = None

abbrev pub sign_branch : SignTest → List OperandKind → Option Form
sign_branch k (Register a ∷ Target l ∷ []) = Some (forms.BranchSign k a l)
sign_branch k _ = None

abbrev pub jump : List OperandKind → Option Form
jump (Target l ∷ []) = Some (forms.Jump l)
jump _ = None

abbrev pub call : List OperandKind → Option Form
call (Function s ∷ []) = Some (forms.Call s)
call (Register a ∷ []) = Some (forms.CallRegister a)
call _ = None

abbrev pub bare : Form → List OperandKind → Option Form
bare form [] = Some form
bare form _ = None

-- the row of each operation
abbrev pub kinds_form : Op → List OperandKind → Option Form
kinds_form MovW kinds = word_move kinds
kinds_form MovH kinds = signed_move width.SignedHalf kinds
kinds_form MovHU kinds = unsigned_move width.UnsignedHalf kinds
kinds_form MovB kinds = signed_move width.SignedByte kinds
kinds_form MovBU kinds = unsigned_move width.UnsignedByte kinds
kinds_form Add kinds = arithmetic calculation.Add kinds
kinds_form AddU kinds = arithmetic calculation.AddU kinds
kinds_form Sub kinds = arithmetic calculation.Sub kinds
kinds_form SubU kinds = arithmetic calculation.SubU kinds
kinds_form And kinds = arithmetic calculation.And kinds
kinds_form Or kinds = arithmetic calculation.Or kinds
kinds_form Xor kinds = arithmetic calculation.Xor kinds
kinds_form Nor kinds = arithmetic calculation.Nor kinds
kinds_form Sgt kinds = arithmetic calculation.Sgt kinds
kinds_form SgtU kinds = arithmetic calculation.SgtU kinds
kinds_form Sll kinds = shift calculation.Sll kinds
kinds_form Srl kinds = shift calculation.Srl kinds
kinds_form Sra kinds = shift calculation.Sra kinds
kinds_form Mul kinds = multiply product.Mul kinds
kinds_form MulU kinds = multiply product.MulU kinds
kinds_form Div kinds = multiply product.Div kinds
kinds_form DivU kinds = multiply product.DivU kinds
kinds_form Beq kinds = pair_branch pair.Equal kinds
kinds_form Bne kinds = pair_branch pair.Unequal kinds
kinds_form Bgez kinds = sign_branch sign.NotNegative kinds
kinds_form Bgtz kinds = sign_branch sign.Positive kinds
kinds_form Blez kinds = sign_branch sign.NotPositive kinds
kinds_form Bltz kinds = sign_branch sign.Negative kinds
kinds_form Jmp kinds = jump kinds
kinds_form Jal kinds = call kinds
kinds_form Ret kinds = bare forms.Return kinds
kinds_form Syscall kinds = bare forms.SystemCall kinds

-- the form that an operation and its operands are, and None where they are none
abbrev pub form_of : Op → List Operand → Option Form
form_of op operands = kinds_form op (map operand_kind operands)

abbrev pub decoded : Abs → Option Form
decoded a = form_of a.op a.operands

-- the operands are a form of the operation
abbrev pub IsForm : Abs → Type 0
IsForm a = IsSome (decoded a)

-- Weights

-- a move between registers: a signed part is shifted up and down again
abbrev pub move_words : Width → ℕ
move_words width.Word = 1
move_words width.SignedHalf = 2
move_words width.UnsignedHalf = 1
move_words width.SignedByte = 2
move_words width.UnsignedByte = 1

-- the machine words of a form
abbrev pub words_of : Form → ℕ
words_of (forms.Move w a b) = move_words w
words_of (forms.SetConstant c b) = 2
words_of (forms.SetAddress a b) = 3
words_of (forms.Load w a b) = 4
words_of (forms.Store w a b) = 3
words_of (forms.GetHiLo a b) = 1
words_of (forms.SetHiLo a b) = 3
words_of (forms.Calculate k a b c) = 1
words_of (forms.CalculateConstant k a b c) = 3
words_of (forms.ShiftConstant k a b c) = 1
words_of (forms.Multiply k a b) = 3
words_of (forms.BranchPair k a b l) = 4
words_of (forms.BranchSign k a l) = 4
words_of (forms.Jump l) = 2
words_of (forms.Call s) = 2
words_of (forms.CallRegister a) = 2
words_of forms.Return = 7
words_of forms.SystemCall = 1

-- the words of an instruction that has a form
abbrev pub weight_of : Abs → ℕ
weight_of a = unwrap_or (option_map words_of (decoded a)) 0

-- a function's entry
abbrev pub entry_weight : ℕ
entry_weight = 4

-- what the start of a program weighs
abbrev pub start_weight : ℕ
start_weight = 2

-- Numbers in objects

-- the number of an operation
abbrev pub op_number : Op → ℕ
op_number MovW = 1
op_number MovH = 2
op_number MovHU = 3
op_number MovB = 4
op_number MovBU = 5
op_number Add = 6
op_number AddU = 7
op_number Sub = 8
op_number SubU = 9
op_number And = 10
op_number Or = 11
op_number Xor = 12
op_number Nor = 13
op_number Sgt = 14
op_number SgtU = 15
op_number Sll = 16
op_number Srl = 17
op_number Sra = 18
op_number Mul = 19
op_number MulU = 20
op_number Div = 21
op_number DivU = 22
op_number Beq = 23
op_number Bne = 24
op_number Bgez = 25
op_number Bgtz = 26
op_number Blez = 27
op_number Bltz = 28
op_number Jmp = 29
op_number Jal = 30
op_number Ret = 31
op_number Syscall = 32

-- the number of an operand's kind; automatics stand in no object
abbrev pub operand_number : Operand → Option ℕ
operand_number (Reg r) = Some 1
operand_number (Const c) = Some 2
operand_number (AddrSB s o) = Some 3
operand_number (AddrFP o) = Some 4
operand_number (AddrSP o) = Some 5
operand_number (MemSB s o) = Some 6
operand_number (MemFP o) = Some 7
operand_number (MemSP o) = Some 8
operand_number (MemReg r o) = Some 9
operand_number (Label l) = Some 10
operand_number (Func s) = Some 11
operand_number Hi = Some 12
operand_number Lo = Some 13
operand_number (Auto v o) = None
operand_number (AutoAddr v o) = None
