-- The reader of objects as a machine: it takes one field after the other, and stops at the first
-- with which no object goes on. Each state tells the fields that led to it.
use Rattle.std.specs.Prelude.{ℕ, ◌+◌, ◌-◌, ◌*◌, ◌%◌, ◌^◌, ◌==◌, Bool, true, false, not, ◌&&◌, ◌||◌, nat_lt, nat_le, if◌then◌else◌, List, [], ◌∷◌, ◌++◌, length, map, flat_map, bytes_eq, Option, Some, None, is_some, Result, Ok, Err}
use Rattle.std.specs.List.{list_any, list_all}
use Rattle.p9_abs.specs.declared.instructions.Op.{Op}
use Rattle.p9_abs.specs.declared.instructions.Op.TheVariants.{MovW, MovH, MovHU, MovB, MovBU, Add, AddU, Sub, SubU, And, Or, Xor, Nor, Sgt, SgtU, Sll, Srl, Sra, Mul, MulU, Div, DivU, Beq, Bne, Bgez, Bgtz, Blez, Bltz, Jmp, Jal, Ret, Syscall}
use Rattle.p9_abs.specs.declared.instructions.Operand.{Operand}
use Rattle.p9_abs.specs.declared.instructions.Operand.TheVariants.{Reg, Const, AddrSB, AddrFP, AddrSP, MemSB, MemFP, MemSP, MemReg, Label, Func, Hi, Lo}
use Rattle.p9_abs.specs.declared.instructions.Abs.{Abs}
use Rattle.p9_abs.specs.declared.instructions.TextDef.{TextDef}
use Rattle.p9_abs.specs.declared.forms.OperandKind.{OperandKind}
use Rattle.p9_abs.specs.declared.forms.OperandKind.TheVariants as kind
use Rattle.p9_abs.specs.declared.modules.DataPiece.{DataPiece}
use Rattle.p9_abs.specs.declared.modules.DataPiece.TheVariants.{Raw, Address}
use Rattle.p9_abs.specs.declared.modules.Body.{Body}
use Rattle.p9_abs.specs.declared.modules.Body.TheVariants.{Declared, Used, Text, Data, Common}
use Rattle.p9_abs.specs.declared.modules.Symbol.{Symbol}
use Rattle.p9_abs.specs.Forms.{operand_kind, form_of, op_number}
use Rattle.p9_abs.specs.Modules.{pieces_size}
use Rattle.p9_abs.specs.Validity.{writes_last}
use Rattle.p9_object.specs.Fields.{Field, Byte, Half, Word, Chars, operand_fields, instruction_fields, piece_fields, symbol_fields, signature_fields, binding_number, magic, version, fields_of}

-- What a field makes of a place: no object goes on with it, it leads to another place, or something
-- is whole.
pub data Turn (P X : Type 0) : Type 0 where
  Bad : Turn P X
  Stay : (place : P) → Turn P X
  Whole : (item : X) → Turn P X

abbrev pub stay_if : {P X : Type 0} → Bool → P → Turn P X
stay_if true p = Stay p
stay_if false p = Bad

abbrev pub whole_if : {P X : Type 0} → Bool → X → Turn P X
whole_if true x = Whole x
whole_if false x = Bad

-- Which sorts of operands may come behind others: those with which some form of the operation goes on

pub data Sort : Type 0 where
  RegisterSort : Sort
  ConstantSort : Sort
  AddressSort : Sort
  MemorySort : Sort
  HiLoSort : Sort
  TargetSort : Sort
  FunctionSort : Sort

abbrev pub sort_of : OperandKind → Sort
sort_of (kind.Register r) = RegisterSort
sort_of (kind.Constant c) = ConstantSort
sort_of (kind.Address a) = AddressSort
sort_of (kind.Memory a) = MemorySort
sort_of (kind.HiLo h) = HiLoSort
sort_of (kind.Target l) = TargetSort
sort_of (kind.Function s) = FunctionSort

abbrev pub sorts : List OperandKind → List Sort
sorts kinds = map sort_of kinds

abbrev pub is_register : Sort → Bool
is_register RegisterSort = true
is_register ConstantSort = false
is_register AddressSort = false
is_register MemorySort = false
is_register HiLoSort = false
is_register TargetSort = false
is_register FunctionSort = false

abbrev pub is_target : Sort → Bool
is_target RegisterSort = false
is_target ConstantSort = false
is_target AddressSort = false
is_target MemorySort = false
is_target HiLoSort = false
is_target TargetSort = true
is_target FunctionSort = false

-- what may be moved, and where to
abbrev pub is_moved : Sort → Bool
is_moved RegisterSort = true
is_moved ConstantSort = true
is_moved AddressSort = true
is_moved MemorySort = true
is_moved HiLoSort = true
is_moved TargetSort = false
is_moved FunctionSort = false

abbrev pub moves_to : Sort → Sort → Bool
moves_to RegisterSort RegisterSort = true
moves_to RegisterSort ConstantSort = false
moves_to RegisterSort AddressSort = false
moves_to RegisterSort MemorySort = true
moves_to RegisterSort HiLoSort = true
moves_to RegisterSort TargetSort = false
moves_to RegisterSort FunctionSort = false
moves_to ConstantSort s = is_register s
moves_to AddressSort s = is_register s
moves_to MemorySort s = is_register s
moves_to HiLoSort s = is_register s
moves_to TargetSort s = false
moves_to FunctionSort s = false

abbrev pub is_part_moved : Sort → Bool
is_part_moved RegisterSort = true
is_part_moved ConstantSort = false
is_part_moved AddressSort = false
is_part_moved MemorySort = true
is_part_moved HiLoSort = false
is_part_moved TargetSort = false
is_part_moved FunctionSort = false

abbrev pub part_moves_to : Sort → Sort → Bool
part_moves_to RegisterSort s = is_part_moved s
part_moves_to MemorySort s = is_register s
part_moves_to ConstantSort s = false
part_moves_to AddressSort s = false
part_moves_to HiLoSort s = false
part_moves_to TargetSort s = false
part_moves_to FunctionSort s = false

abbrev pub extends_to : Sort → Sort → Bool
extends_to RegisterSort s = is_register s
extends_to MemorySort s = is_register s
extends_to ConstantSort s = false
extends_to AddressSort s = false
extends_to HiLoSort s = false
extends_to TargetSort s = false
extends_to FunctionSort s = false

-- a register or a constant
abbrev pub is_counted : Sort → Bool
is_counted RegisterSort = true
is_counted ConstantSort = true
is_counted AddressSort = false
is_counted MemorySort = false
is_counted HiLoSort = false
is_counted TargetSort = false
is_counted FunctionSort = false

abbrev pub is_called : Sort → Bool
is_called RegisterSort = true
is_called ConstantSort = false
is_called AddressSort = false
is_called MemorySort = false
is_called HiLoSort = false
is_called TargetSort = false
is_called FunctionSort = true

abbrev pub next_of_move : List Sort → Sort → Bool
next_of_move [] s = is_moved s
next_of_move (first ∷ []) s = moves_to first s
next_of_move (first ∷ second ∷ more) s = false

abbrev pub next_of_signed : List Sort → Sort → Bool
next_of_signed [] s = is_part_moved s
next_of_signed (first ∷ []) s = part_moves_to first s
next_of_signed (first ∷ second ∷ more) s = false

abbrev pub next_of_unsigned : List Sort → Sort → Bool
next_of_unsigned [] s = is_part_moved s
next_of_unsigned (first ∷ []) s = extends_to first s
next_of_unsigned (first ∷ second ∷ more) s = false

abbrev pub next_of_arithmetic : List Sort → Sort → Bool
next_of_arithmetic [] s = is_counted s
next_of_arithmetic (first ∷ []) s = is_counted first && is_register s
next_of_arithmetic (first ∷ second ∷ []) s = is_counted first && (is_register second && is_register s)
next_of_arithmetic (first ∷ second ∷ third ∷ more) s = false

abbrev pub next_of_product : List Sort → Sort → Bool
next_of_product [] s = is_register s
next_of_product (first ∷ []) s = is_register first && is_register s
next_of_product (first ∷ second ∷ more) s = false

abbrev pub next_of_pair_branch : List Sort → Sort → Bool
next_of_pair_branch [] s = is_register s
next_of_pair_branch (first ∷ []) s = is_register first && is_register s
next_of_pair_branch (first ∷ second ∷ []) s = is_register first && (is_register second && is_target s)
next_of_pair_branch (first ∷ second ∷ third ∷ more) s = false

abbrev pub next_of_sign_branch : List Sort → Sort → Bool
next_of_sign_branch [] s = is_register s
next_of_sign_branch (first ∷ []) s = is_register first && is_target s
next_of_sign_branch (first ∷ second ∷ more) s = false

abbrev pub next_of_jump : List Sort → Sort → Bool
next_of_jump [] s = is_target s
next_of_jump (first ∷ more) s = false

abbrev pub next_of_call : List Sort → Sort → Bool
next_of_call [] s = is_called s
next_of_call (first ∷ more) s = false

abbrev pub next_of_none : List Sort → Sort → Bool
next_of_none before s = false

abbrev pub may_follow : Op → List Sort → Sort → Bool
may_follow MovW = next_of_move
may_follow MovH = next_of_signed
may_follow MovHU = next_of_unsigned
may_follow MovB = next_of_signed
may_follow MovBU = next_of_unsigned
may_follow Add = next_of_arithmetic
may_follow AddU = next_of_arithmetic
may_follow Sub = next_of_arithmetic
may_follow SubU = next_of_arithmetic
may_follow And = next_of_arithmetic
may_follow Or = next_of_arithmetic
may_follow Xor = next_of_arithmetic
may_follow Nor = next_of_arithmetic
may_follow Sgt = next_of_arithmetic
may_follow SgtU = next_of_arithmetic
may_follow Sll = next_of_arithmetic
may_follow Srl = next_of_arithmetic
may_follow Sra = next_of_arithmetic
may_follow Mul = next_of_product
may_follow MulU = next_of_product
may_follow Div = next_of_product
may_follow DivU = next_of_product
may_follow Beq = next_of_pair_branch
may_follow Bne = next_of_pair_branch
may_follow Bgez = next_of_sign_branch
may_follow Bgtz = next_of_sign_branch
may_follow Blez = next_of_sign_branch
may_follow Bltz = next_of_sign_branch
may_follow Jmp = next_of_jump
may_follow Jal = next_of_call
may_follow Ret = next_of_none
may_follow Syscall = next_of_none

-- a shift by a constant is by 0 to 31
abbrev pub shifts : Op → Bool
shifts Sll = true
shifts Srl = true
shifts Sra = true
shifts _ = false

abbrev pub is_constant_of : Op → ℕ → Bool
is_constant_of op c = not (shifts op) || nat_lt c 32

-- Operands

-- at the number of the kind, or at a number of an operand of that kind, behind those read
pub data OperandPlace : Type 0 where
  AtTag : OperandPlace
  AtRegister : OperandPlace
  AtConstant : OperandPlace
  AtAddressSymbol : OperandPlace
  AtAddressOffset : (symbol : ℕ) → OperandPlace
  AtArgumentAddress : OperandPlace
  AtFrameAddress : OperandPlace
  AtSymbol : OperandPlace
  AtOffset : (symbol : ℕ) → OperandPlace
  AtArgument : OperandPlace
  AtFrameOffset : OperandPlace
  AtBase : OperandPlace
  AtBaseOffset : (register : ℕ) → OperandPlace
  AtLabel : OperandPlace
  AtFunction : OperandPlace

abbrev pub read_operand : OperandPlace → List Field
read_operand AtTag = []
read_operand AtRegister = Byte 1 ∷ []
read_operand AtConstant = Byte 2 ∷ []
read_operand AtAddressSymbol = Byte 3 ∷ []
read_operand (AtAddressOffset s) = Byte 3 ∷ Word s ∷ []
read_operand AtArgumentAddress = Byte 4 ∷ []
read_operand AtFrameAddress = Byte 5 ∷ []
read_operand AtSymbol = Byte 6 ∷ []
read_operand (AtOffset s) = Byte 6 ∷ Word s ∷ []
read_operand AtArgument = Byte 7 ∷ []
read_operand AtFrameOffset = Byte 8 ∷ []
read_operand AtBase = Byte 9 ∷ []
read_operand (AtBaseOffset r) = Byte 9 ∷ Byte r ∷ []
read_operand AtLabel = Byte 10 ∷ []
read_operand AtFunction = Byte 11 ∷ []

-- what is known of the operand that is read: how many symbols the module has, the function's frame
-- and count of instructions, which sorts the operand may be of, which constants, and whether it is
-- what the instruction writes, if it is this register
pub record Around : Type 0 where
  pub symbols : ℕ
  pub frame : ℕ
  pub total : ℕ
  pub may : Sort → Bool
  pub may_be_constant : ℕ → Bool
  pub is_written : ℕ → Bool

-- neither the system's registers nor the loader's
abbrev pub is_own_register : ℕ → Bool
is_own_register r = nat_lt r 32 && (not (r == 26) && (not (r == 27) && not (r == 28)))

abbrev pub is_lasting_register : ℕ → Bool
is_lasting_register r = (r == 29) || ((r == 30) || (r == 31))

abbrev pub is_in_frame : (frame offset : ℕ) → Bool
is_in_frame frame o = nat_le (2 ^ 32 - frame) o && nat_lt o (2 ^ 32)

-- at the number of an operand's kind
abbrev pub tag_step : Around → ℕ → Turn OperandPlace Operand
tag_step a n =
    if n == 1 then stay_if (a.may RegisterSort) AtRegister
    else if n == 2 then stay_if (a.may ConstantSort) AtConstant
    else if n == 3 then stay_if (a.may AddressSort) AtAddressSymbol
    else if n == 4 then stay_if (a.may AddressSort) AtArgumentAddress
    else if n == 5 then stay_if (a.may AddressSort && nat_lt 0 a.frame) AtFrameAddress
    else if n == 6 then stay_if (a.may MemorySort) AtSymbol
    else if n == 7 then stay_if (a.may MemorySort) AtArgument
    else if n == 8 then stay_if (a.may MemorySort && nat_lt 0 a.frame) AtFrameOffset
    else if n == 9 then stay_if (a.may MemorySort) AtBase
    else if n == 10 then stay_if (a.may TargetSort) AtLabel
    else if n == 11 then stay_if (a.may FunctionSort) AtFunction
    else if n == 12 then whole_if (a.may HiLoSort) Hi
    else if n == 13 then whole_if (a.may HiLoSort) Lo
    else Bad

abbrev pub operand_step : Around → OperandPlace → Field → Turn OperandPlace Operand
operand_step a AtTag (Byte n) = tag_step a n
operand_step a AtRegister (Byte r) = whole_if (is_own_register r && not (a.is_written r && is_lasting_register r)) (Reg r)
operand_step a AtConstant (Word c) = whole_if (a.may_be_constant c) (Const c)
operand_step a AtAddressSymbol (Word s) = stay_if (nat_lt s a.symbols) (AtAddressOffset s)
operand_step a (AtAddressOffset s) (Word o) = Whole (AddrSB s o)
operand_step a AtArgumentAddress (Word o) = whole_if (nat_le o 65535) (AddrFP o)
operand_step a AtFrameAddress (Word o) = whole_if (is_in_frame a.frame o) (AddrSP o)
operand_step a AtSymbol (Word s) = stay_if (nat_lt s a.symbols) (AtOffset s)
operand_step a (AtOffset s) (Word o) = Whole (MemSB s o)
operand_step a AtArgument (Word o) = whole_if (nat_le o 65535) (MemFP o)
operand_step a AtFrameOffset (Word o) = whole_if (is_in_frame a.frame o) (MemSP o)
operand_step a AtBase (Byte r) = stay_if (is_own_register r) (AtBaseOffset r)
operand_step a (AtBaseOffset r) (Word o) = Whole (MemReg r o)
operand_step a AtLabel (Word l) = whole_if (nat_lt l a.total) (Label l)
operand_step a AtFunction (Word s) = whole_if (nat_lt s a.symbols) (Func s)
operand_step a place field = Bad

-- Instructions

pub data InstructionPlace : Type 0 where
  AtOperation : InstructionPlace
  InOperand : (op : Op) (before : List Operand) (place : OperandPlace) → InstructionPlace

abbrev pub read_instruction : InstructionPlace → List Field
read_instruction AtOperation = []
read_instruction (InOperand op before place) = Byte (op_number op) ∷ flat_map operand_fields before ++ read_operand place

abbrev pub all_operations : List Op
all_operations =
    MovW ∷ MovH ∷ MovHU ∷ MovB ∷ MovBU ∷ Add ∷ AddU ∷ Sub ∷ SubU ∷ And ∷ Or ∷ Xor ∷ Nor ∷ Sgt ∷ SgtU
    ∷ Sll ∷ Srl ∷ Sra ∷ Mul ∷ MulU ∷ Div ∷ DivU ∷ Beq ∷ Bne ∷ Bgez ∷ Bgtz ∷ Blez ∷ Bltz ∷ Jmp ∷ Jal ∷ Ret ∷ Syscall ∷ []

-- the operation of a number
abbrev pub op_among : List Op → ℕ → Option Op
op_among [] n = None
op_among (op ∷ ops) n = if n == op_number op then Some op else op_among ops n

-- the operations that may end a function
abbrev pub may_end : Op → Bool
may_end Ret = true
may_end Jmp = true
may_end _ = false

-- an instruction that is whole when its operands are a form
abbrev pub with_operands : Op → List Operand → Turn InstructionPlace Abs
with_operands op operands =
    if is_some (form_of op operands) then Whole (record { op = op; operands = operands })
    else Stay (InOperand op operands AtTag)

-- what is known around the next operand
abbrev pub around : (symbols frame total : ℕ) → Op → List Operand → Around
around symbols frame total op before = record {
  symbols = symbols;
  frame = frame;
  total = total;
  may = may_follow op (sorts (map operand_kind before));
  may_be_constant = is_constant_of op;
  is_written = λ r. writes_last op && is_some (form_of op (before ++ Reg r ∷ []));
}

abbrev pub behind_operand : Op → List Operand → Turn OperandPlace Operand → Turn InstructionPlace Abs
behind_operand op before Bad = Bad
behind_operand op before (Stay place) = Stay (InOperand op before place)
behind_operand op before (Whole operand) = with_operands op (before ++ operand ∷ [])

-- `more` says that another instruction of the function follows
abbrev pub operation_step : (more : Bool) → Option Op → Turn InstructionPlace Abs
operation_step more None = Bad
operation_step more (Some op) = if more || may_end op then with_operands op [] else Bad

abbrev pub instruction_step : (symbols frame total : ℕ) → (more : Bool) → InstructionPlace → Field → Turn InstructionPlace Abs
instruction_step symbols frame total more AtOperation (Byte n) = operation_step more (op_among all_operations n)
instruction_step symbols frame total more AtOperation field = Bad
instruction_step symbols frame total more (InOperand op before place) field =
    behind_operand op before (operand_step (around symbols frame total op before) place field)

-- Pieces of data

pub data PiecePlace : Type 0 where
  AtPiece : PiecePlace
  AtRawLength : PiecePlace
  AtRaw : (n : ℕ) → PiecePlace
  AtPieceSymbol : PiecePlace
  AtPieceOffset : (symbol : ℕ) → PiecePlace

abbrev pub read_piece : PiecePlace → List Field
read_piece AtPiece = []
read_piece AtRawLength = Byte 0 ∷ []
read_piece (AtRaw n) = Byte 0 ∷ Word n ∷ []
read_piece AtPieceSymbol = Byte 1 ∷ []
read_piece (AtPieceOffset s) = Byte 1 ∷ Word s ∷ []

-- the greatest size of an object
abbrev pub size_limit : ℕ
size_limit = 16777216

abbrev pub ends_raw : List DataPiece → Bool
ends_raw [] = false
ends_raw (Raw bytes ∷ []) = true
ends_raw (Address s o ∷ []) = false
ends_raw (piece ∷ next ∷ rest) = ends_raw (next ∷ rest)

-- Raw bytes may come behind the pieces before where the last of these isn't raw. With so many pieces
-- to come behind them, each of which needs four bytes at a multiple of 4 (the last may have one),
-- they end at a multiple of 4.
abbrev pub raw_fits : (size n behind : ℕ) → Bool
raw_fits size n behind =
    nat_lt 0 n && (nat_le (size + n + 4 * behind) size_limit && ((behind == 0) || (n % 4 == 0)))

abbrev pub piece_step : (symbols : ℕ) → (before : List DataPiece) → (behind : ℕ) → PiecePlace → Field → Turn PiecePlace DataPiece
piece_step symbols before behind AtPiece (Byte n) =
    if n == 0 then stay_if (not (ends_raw before)) AtRawLength else stay_if (n == 1) AtPieceSymbol
piece_step symbols before behind AtRawLength (Word n) = stay_if (raw_fits (pieces_size before) n behind) (AtRaw n)
piece_step symbols before behind (AtRaw n) (Chars bytes) = whole_if (length bytes == n) (Raw bytes)
piece_step symbols before behind AtPieceSymbol (Word s) = stay_if (nat_lt s symbols) (AtPieceOffset s)
piece_step symbols before behind (AtPieceOffset s) (Word o) = Whole (Address s o)
piece_step symbols before behind place field = Bad

-- so many pieces find room: four bytes each, the last may have one
abbrev pub pieces_fit : ℕ → Bool
pieces_fit n = nat_lt 0 n && nat_le n 4194304

-- Symbols

pub data Kind : Type 0 where
  DeclaredKind : Kind
  UsedKind : Kind
  TextKind : Kind
  DataKind : Kind
  CommonKind : Kind

abbrev pub number_of_kind : Kind → ℕ
number_of_kind DeclaredKind = 0
number_of_kind UsedKind = 1
number_of_kind TextKind = 2
number_of_kind DataKind = 3
number_of_kind CommonKind = 4

abbrev pub all_kinds : List Kind
all_kinds = DeclaredKind ∷ UsedKind ∷ TextKind ∷ DataKind ∷ CommonKind ∷ []

abbrev pub kind_among : List Kind → ℕ → Option Kind
kind_among [] n = None
kind_among (k ∷ ks) n = if n == number_of_kind k then Some k else kind_among ks n

abbrev pub defines : Kind → Bool
defines DeclaredKind = false
defines UsedKind = false
defines TextKind = true
defines DataKind = true
defines CommonKind = true

-- what stands before a symbol's body
pub record Head : Type 0 where
  pub local : Bool
  pub kind : Kind
  pub name : List ℕ
  pub sig : List ℕ

pub data SymbolPlace : Type 0 where
  AtBinding : SymbolPlace
  AtKind : (local : Bool) → SymbolPlace
  AtNameLength : (local : Bool) (kind : Kind) → SymbolPlace
  AtName : (local : Bool) (kind : Kind) (n : ℕ) → SymbolPlace
  AtSignatureLength : (local : Bool) (kind : Kind) (name : List ℕ) → SymbolPlace
  AtSignature : (local : Bool) (kind : Kind) (name : List ℕ) (n : ℕ) → SymbolPlace
  AtFrame : (head : Head) → SymbolPlace
  AtTotal : (head : Head) (frame : ℕ) → SymbolPlace
  InCode : (head : Head) (frame total : ℕ) (before : List Abs) (place : InstructionPlace) → SymbolPlace
  AtPieces : (head : Head) → SymbolPlace
  InPieces : (head : Head) (total : ℕ) (before : List DataPiece) (place : PiecePlace) → SymbolPlace
  AtSize : (head : Head) → SymbolPlace

abbrev pub name_fields : (local : Bool) (kind : Kind) (name : List ℕ) → List Field
name_fields local kind name =
    Byte (binding_number local) ∷ Byte (number_of_kind kind) ∷ Half (length name) ∷ Chars name ∷ []

abbrev pub head_fields : Head → List Field
head_fields h = name_fields h.local h.kind h.name ++ signature_fields h.sig

abbrev pub read_symbol : SymbolPlace → List Field
read_symbol AtBinding = []
read_symbol (AtKind l) = Byte (binding_number l) ∷ []
read_symbol (AtNameLength l k) = Byte (binding_number l) ∷ Byte (number_of_kind k) ∷ []
read_symbol (AtName l k n) = Byte (binding_number l) ∷ Byte (number_of_kind k) ∷ Half n ∷ []
read_symbol (AtSignatureLength l k name) = name_fields l k name
read_symbol (AtSignature l k name n) = name_fields l k name ++ Word n ∷ []
read_symbol (AtFrame h) = head_fields h
read_symbol (AtTotal h frame) = head_fields h ++ Word frame ∷ []
read_symbol (InCode h frame total before place) =
    head_fields h ++ (Word frame ∷ Word total ∷ flat_map instruction_fields before ++ read_instruction place)
read_symbol (AtPieces h) = head_fields h
read_symbol (InPieces h total before place) = head_fields h ++ (Word total ∷ flat_map piece_fields before ++ read_piece place)
read_symbol (AtSize h) = head_fields h

abbrev pub is_graphic : ℕ → Bool
is_graphic b = nat_le 33 b && nat_le b 126

-- a byte of a signature is no quote and no backslash
abbrev pub is_of_signature : ℕ → Bool
is_of_signature b = is_graphic b && (not (b == 34) && not (b == 92))

abbrev pub same_binding : Bool → Bool → Bool
same_binding true b = b
same_binding false b = not b

-- the symbol has this binding and this name
abbrev pub is_named : (local : Bool) (name : List ℕ) → Symbol → Bool
is_named local name s = same_binding s.local local && bytes_eq s.name name

abbrev pub symbol_with : Head → Body → Symbol
symbol_with h body = record { name = h.name; local = h.local; sig = h.sig; body = body }

-- behind the signature
abbrev pub behind_head : Head → Kind → Turn SymbolPlace Symbol
behind_head h DeclaredKind = Whole (symbol_with h Declared)
behind_head h UsedKind = Whole (symbol_with h Used)
behind_head h TextKind = Stay (AtFrame h)
behind_head h DataKind = Stay (AtPieces h)
behind_head h CommonKind = Stay (AtSize h)

abbrev pub with_signature : (local : Bool) (kind : Kind) (name sig : List ℕ) → Turn SymbolPlace Symbol
with_signature local kind name sig =
    behind_head (record { local = local; kind = kind; name = name; sig = sig }) kind

abbrev pub behind_instruction : Head → (frame total : ℕ) → List Abs → Turn InstructionPlace Abs → Turn SymbolPlace Symbol
behind_instruction h frame total before Bad = Bad
behind_instruction h frame total before (Stay place) = Stay (InCode h frame total before place)
behind_instruction h frame total before (Whole a) =
    if nat_lt (length before + 1) total then Stay (InCode h frame total (before ++ a ∷ []) AtOperation)
    else Whole (symbol_with h (Text (record { frame = frame; code = before ++ a ∷ [] })))

abbrev pub behind_piece : Head → (total : ℕ) → List DataPiece → Turn PiecePlace DataPiece → Turn SymbolPlace Symbol
behind_piece h total before Bad = Bad
behind_piece h total before (Stay place) = Stay (InPieces h total before place)
behind_piece h total before (Whole piece) =
    if nat_lt (length before + 1) total then Stay (InPieces h total (before ++ piece ∷ []) AtPiece)
    else Whole (symbol_with h (Data (before ++ piece ∷ [])))

abbrev pub kind_step : (local : Bool) → Option Kind → Turn SymbolPlace Symbol
kind_step local None = Bad
kind_step local (Some k) = stay_if (not local || defines k) (AtNameLength local k)

-- among so many symbols, behind those that are whole
abbrev pub symbol_step : (symbols : ℕ) → List Symbol → SymbolPlace → Field → Turn SymbolPlace Symbol
symbol_step symbols seen AtBinding (Byte n) = if n == 0 then Stay (AtKind false) else stay_if (n == 1) (AtKind true)
symbol_step symbols seen (AtKind l) (Byte n) = kind_step l (kind_among all_kinds n)
symbol_step symbols seen (AtNameLength l k) (Half n) = stay_if (nat_lt 0 n && nat_le n 255) (AtName l k n)
symbol_step symbols seen (AtName l k n) (Chars name) =
    stay_if ((length name == n) && (list_all is_graphic name && not (list_any (is_named l name) seen))) (AtSignatureLength l k name)
symbol_step symbols seen (AtSignatureLength l k name) (Word n) =
    if n == 0 then with_signature l k name [] else stay_if (not l && nat_le n 65536) (AtSignature l k name n)
symbol_step symbols seen (AtSignature l k name n) (Chars sig) =
    if (length sig == n) && list_all is_of_signature sig then with_signature l k name sig else Bad
symbol_step symbols seen (AtFrame h) (Word frame) = stay_if ((frame % 4 == 0) && nat_le frame 16777212) (AtTotal h frame)
symbol_step symbols seen (AtTotal h frame) (Word total) =
    stay_if (nat_lt 0 total && nat_lt total (2 ^ 32)) (InCode h frame total [] AtOperation)
symbol_step symbols seen (InCode h frame total before place) field =
    behind_instruction h frame total before (instruction_step symbols frame total (nat_lt (length before + 1) total) place field)
symbol_step symbols seen (AtPieces h) (Word total) = stay_if (pieces_fit total) (InPieces h total [] AtPiece)
symbol_step symbols seen (InPieces h total before place) field =
    behind_piece h total before (piece_step symbols before (total - (length before + 1)) place field)
symbol_step symbols seen (AtSize h) (Word size) = whole_if (nat_lt 0 size && nat_le size size_limit) (symbol_with h (Common size))
symbol_step symbols seen place field = Bad

-- Objects

pub data State : Type 0 where
  AtMagic : State
  AtVersion : State
  AtCount : State
  InSymbols : (count : ℕ) (before : List Symbol) (place : SymbolPlace) → State
  Done : (symbols : List Symbol) → State

-- the fields that led to a state
abbrev pub read_of : State → List Field
read_of AtMagic = []
read_of AtVersion = Chars magic ∷ []
read_of AtCount = Chars magic ∷ Word version ∷ []
read_of (InSymbols count before place) =
    Chars magic ∷ Word version ∷ Word count ∷ flat_map symbol_fields before ++ read_symbol place
read_of (Done symbols) = fields_of symbols

-- why a field is refused: no object goes on with it, or it is another version
pub data Break : Type 0 where
  NoObject : Break
  OtherVersion : (v : ℕ) → Break

abbrev pub behind_symbol : (count : ℕ) → List Symbol → Turn SymbolPlace Symbol → Result State Break
behind_symbol count before Bad = Err NoObject
behind_symbol count before (Stay place) = Ok (InSymbols count before place)
behind_symbol count before (Whole s) =
    if nat_lt (length before + 1) count then Ok (InSymbols count (before ++ s ∷ []) AtBinding)
    else Ok (Done (before ++ s ∷ []))

abbrev pub ok_if : Bool → State → Result State Break
ok_if true s = Ok s
ok_if false s = Err NoObject

abbrev pub step : State → Field → Result State Break
step AtMagic (Chars bytes) = ok_if (bytes_eq bytes magic) AtVersion
step AtVersion (Word v) = if v == version then Ok AtCount else Err (OtherVersion v)
step AtCount (Word n) = if n == 0 then Ok (Done []) else ok_if (nat_lt n (2 ^ 32)) (InSymbols n [] AtBinding)
step (InSymbols count before place) field = behind_symbol count before (symbol_step count before place field)
step state field = Err NoObject

abbrev pub steps : Result State Break → List Field → Result State Break
steps (Err b) fields = Err b
steps (Ok s) [] = Ok s
steps (Ok s) (f ∷ fs) = steps (step s f) fs
