-- The reader over bytes: a field is judged when its last byte is there.
use Rattle.std.specs.Prelude.{◌≡◌, ℕ, ◌+◌, ◌*◌, ◌==◌, if◌then◌else◌, List, [], ◌∷◌, ◌++◌, length, Result, Ok, Err}
use Rattle.p9_abs.specs.declared.modules.AModule.{AModule}
use Rattle.p9_object.specs.Fields.{Field, Byte, Half, Word, Chars}
use Rattle.p9_object.specs.Machine.{OperandPlace, AtTag, AtRegister, AtConstant, AtAddressSymbol, AtAddressOffset, AtArgumentAddress, AtFrameAddress, AtSymbol, AtOffset, AtArgument, AtFrameOffset, AtBase, AtBaseOffset, AtLabel, AtFunction, InstructionPlace, AtOperation, InOperand, PiecePlace, AtPiece, AtRawLength, AtRaw, AtPieceSymbol, AtPieceOffset, SymbolPlace, AtBinding, AtKind, AtNameLength, AtName, AtSignatureLength, AtSignature, AtFrame, AtTotal, InCode, AtPieces, InPieces, AtSize, State, AtMagic, AtVersion, AtCount, InSymbols, Done, Break, NoObject, OtherVersion, step}

-- Fields by their bytes

-- what a field is: a number of one, two or four bytes, or so many bytes as they stand
pub data Width : Type 0 where
  OneByte : Width
  TwoBytes : Width
  FourBytes : Width
  Run : (n : ℕ) → Width

abbrev pub width_bytes : Width → ℕ
width_bytes OneByte = 1
width_bytes TwoBytes = 2
width_bytes FourBytes = 4
width_bytes (Run n) = n

-- bytes as a number, the highest first, behind those of a number
abbrev pub number_from : (so_far : ℕ) → List ℕ → ℕ
number_from n [] = n
number_from n (b ∷ bs) = number_from (256 * n + b) bs

abbrev pub number_of : List ℕ → ℕ
number_of bytes = number_from 0 bytes

abbrev pub field_of : Width → List ℕ → Field
field_of OneByte bytes = Byte (number_of bytes)
field_of TwoBytes bytes = Half (number_of bytes)
field_of FourBytes bytes = Word (number_of bytes)
field_of (Run n) bytes = Chars bytes

-- The field that comes at each place

abbrev pub operand_width : OperandPlace → Width
operand_width AtTag = OneByte
operand_width AtRegister = OneByte
operand_width AtConstant = FourBytes
operand_width AtAddressSymbol = FourBytes
operand_width (AtAddressOffset s) = FourBytes
operand_width AtArgumentAddress = FourBytes
operand_width AtFrameAddress = FourBytes
operand_width AtSymbol = FourBytes
operand_width (AtOffset s) = FourBytes
operand_width AtArgument = FourBytes
operand_width AtFrameOffset = FourBytes
operand_width AtBase = OneByte
operand_width (AtBaseOffset r) = FourBytes
operand_width AtLabel = FourBytes
operand_width AtFunction = FourBytes

abbrev pub instruction_width : InstructionPlace → Width
instruction_width AtOperation = OneByte
instruction_width (InOperand op before place) = operand_width place

abbrev pub piece_width : PiecePlace → Width
piece_width AtPiece = OneByte
piece_width AtRawLength = FourBytes
piece_width (AtRaw n) = Run n
piece_width AtPieceSymbol = FourBytes
piece_width (AtPieceOffset s) = FourBytes

abbrev pub symbol_width : SymbolPlace → Width
symbol_width AtBinding = OneByte
symbol_width (AtKind l) = OneByte
symbol_width (AtNameLength l k) = TwoBytes
symbol_width (AtName l k n) = Run n
symbol_width (AtSignatureLength l k name) = FourBytes
symbol_width (AtSignature l k name n) = Run n
symbol_width (AtFrame h) = FourBytes
symbol_width (AtTotal h frame) = FourBytes
symbol_width (InCode h frame total before place) = instruction_width place
symbol_width (AtPieces h) = FourBytes
symbol_width (InPieces h total before place) = piece_width place
symbol_width (AtSize h) = FourBytes

-- behind an object no field comes
abbrev pub width_at : State → Width
width_at AtMagic = Run 4
width_at AtVersion = FourBytes
width_at AtCount = FourBytes
width_at (InSymbols count before place) = symbol_width place
width_at (Done symbols) = Run 0

-- Reading

-- why bytes are refused: at this byte, or for their version
pub data Fault : Type 0 where
  BadObject : (at : ℕ) → Fault
  Version : (v : ℕ) → Fault

-- how far a reader is: the bytes of whole fields, the state behind them, and the bytes behind these
pub record Point : Type 0 where
  pub at : ℕ
  pub state : State
  pub pending : List ℕ

abbrev pub start : Point
start = record { at = 0; state = AtMagic; pending = [] }

abbrev pub fault_of : (at : ℕ) → Break → Fault
fault_of at NoObject = BadObject at
fault_of at (OtherVersion v) = Version v

-- a field of n bytes that began at a place was judged
abbrev pub judged : (at n : ℕ) → Result State Break → Result Point Fault
judged at n (Err b) = Err (fault_of at b)
judged at n (Ok s) = Ok (record { at = at + n; state = s; pending = [] })

-- with bytes that begin a field, or are a whole one
abbrev pub with_pending : (at : ℕ) → State → (pending : List ℕ) → Result Point Fault
with_pending at (Done symbols) pending = Err (BadObject at)
with_pending at s pending =
    if length pending == width_bytes (width_at s) then judged at (length pending) (step s (field_of (width_at s) pending))
    else Ok (record { at = at; state = s; pending = pending })

-- one byte more
abbrev pub push : Point → ℕ → Result Point Fault
push p b = with_pending p.at p.state (p.pending ++ b ∷ [])

abbrev pub pushes : Result Point Fault → List ℕ → Result Point Fault
pushes (Err f) bytes = Err f
pushes (Ok p) [] = Ok p
pushes (Ok p) (b ∷ bs) = pushes (push p b) bs

-- the end of the bytes: an object is whole, or they end inside one
abbrev pub module_at : State → (size : ℕ) → Result AModule Fault
module_at (Done symbols) n = Ok (record { symbols = symbols })
module_at s n = Err (BadObject n)

abbrev pub finished : Point → Result AModule Fault
finished p = module_at p.state (p.at + length p.pending)

abbrev pub ended : Result Point Fault → Result AModule Fault
ended (Err f) = Err f
ended (Ok p) = finished p

-- what the bytes are: an object's module, or why they are none
abbrev pub reading : List ℕ → Result AModule Fault
reading bytes = ended (pushes (Ok start) bytes)
