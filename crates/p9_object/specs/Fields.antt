-- Object files as lists of fields: numbers of one, two or four bytes, and runs of bytes. The layout
-- is this project's own.
use Rattle.std.specs.Prelude.{ℕ, ◌/◌, ◌%◌, ◌^◌, Bool, true, false, List, [], ◌∷◌, ◌++◌, length, flat_map}
use Rattle.p9_base.specs.Numbers.{word_bytes}
use Rattle.p9_abs.specs.declared.instructions.Op.{Op}
use Rattle.p9_abs.specs.declared.instructions.Operand.{Operand}
use Rattle.p9_abs.specs.declared.instructions.Operand.TheVariants.{Reg, Const, AddrSB, AddrFP, AddrSP, MemSB, MemFP, MemSP, MemReg, Label, Func, Hi, Lo, Auto, AutoAddr}
use Rattle.p9_abs.specs.declared.instructions.Abs.{Abs}
use Rattle.p9_abs.specs.declared.modules.DataPiece.{DataPiece}
use Rattle.p9_abs.specs.declared.modules.DataPiece.TheVariants.{Raw, Address}
use Rattle.p9_abs.specs.declared.modules.Body.{Body}
use Rattle.p9_abs.specs.declared.modules.Body.TheVariants.{Declared, Used, Text, Data, Common}
use Rattle.p9_abs.specs.declared.modules.Symbol.{Symbol}
use Rattle.p9_abs.specs.declared.modules.AModule.{AModule}
use Rattle.p9_abs.specs.Forms.{op_number}

-- a number of one, two or four bytes, its highest byte first, or bytes as they stand
pub data Field : Type 0 where
  Byte : (n : ℕ) → Field
  Half : (n : ℕ) → Field
  Word : (n : ℕ) → Field
  Chars : (bytes : List ℕ) → Field

-- Instructions

-- an operand: the number of its kind, then its numbers; automatics stand in no object
abbrev pub operand_fields : Operand → List Field
operand_fields (Reg r) = Byte 1 ∷ Byte r ∷ []
operand_fields (Const c) = Byte 2 ∷ Word c ∷ []
operand_fields (AddrSB s o) = Byte 3 ∷ Word s ∷ Word o ∷ []
operand_fields (AddrFP o) = Byte 4 ∷ Word o ∷ []
operand_fields (AddrSP o) = Byte 5 ∷ Word o ∷ []
operand_fields (MemSB s o) = Byte 6 ∷ Word s ∷ Word o ∷ []
operand_fields (MemFP o) = Byte 7 ∷ Word o ∷ []
operand_fields (MemSP o) = Byte 8 ∷ Word o ∷ []
operand_fields (MemReg r o) = Byte 9 ∷ Byte r ∷ Word o ∷ []
operand_fields (Label l) = Byte 10 ∷ Word l ∷ []
operand_fields (Func s) = Byte 11 ∷ Word s ∷ []
operand_fields Hi = Byte 12 ∷ []
operand_fields Lo = Byte 13 ∷ []
operand_fields (Auto v o) = []
operand_fields (AutoAddr v o) = []

abbrev pub instruction_fields : Abs → List Field
instruction_fields a = Byte (op_number a.op) ∷ flat_map operand_fields a.operands

-- Data

abbrev pub piece_fields : DataPiece → List Field
piece_fields (Raw bytes) = Byte 0 ∷ Word (length bytes) ∷ Chars bytes ∷ []
piece_fields (Address s o) = Byte 1 ∷ Word s ∷ Word o ∷ []

-- Symbols

abbrev pub binding_number : (local : Bool) → ℕ
binding_number false = 0
binding_number true = 1

abbrev pub kind_number : Body → ℕ
kind_number Declared = 0
kind_number Used = 1
kind_number (Text def) = 2
kind_number (Data pieces) = 3
kind_number (Common size) = 4

-- a signature with its length; where it is empty, nothing follows the length
abbrev pub signature_fields : List ℕ → List Field
signature_fields [] = Word 0 ∷ []
signature_fields (b ∷ bs) = Word (length (b ∷ bs)) ∷ Chars (b ∷ bs) ∷ []

abbrev pub body_fields : Body → List Field
body_fields Declared = []
body_fields Used = []
body_fields (Text def) = Word def.frame ∷ Word (length def.code) ∷ flat_map instruction_fields def.code
body_fields (Data pieces) = Word (length pieces) ∷ flat_map piece_fields pieces
body_fields (Common size) = Word size ∷ []

abbrev pub symbol_fields : Symbol → List Field
symbol_fields s =
    Byte (binding_number s.local) ∷ Byte (kind_number s.body) ∷ Half (length s.name) ∷ Chars s.name
    ∷ signature_fields s.sig ++ body_fields s.body

-- Modules

-- v9o and a newline
abbrev pub magic : List ℕ
magic = 118 ∷ 57 ∷ 111 ∷ 10 ∷ []

abbrev pub version : ℕ
version = 1

abbrev pub fields_of : List Symbol → List Field
fields_of symbols = Chars magic ∷ Word version ∷ Word (length symbols) ∷ flat_map symbol_fields symbols

-- Bytes

abbrev pub half_bytes : ℕ → List ℕ
half_bytes n = n / 2 ^ 8 % 2 ^ 8 ∷ n % 2 ^ 8 ∷ []

abbrev pub field_bytes : Field → List ℕ
field_bytes (Byte n) = n ∷ []
field_bytes (Half n) = half_bytes n
field_bytes (Word n) = word_bytes n
field_bytes (Chars bytes) = bytes

-- the object of a module: its one spelling
abbrev pub spelling : AModule → List ℕ
spelling m = flat_map field_bytes (fields_of m.symbols)
