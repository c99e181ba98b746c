-- The symbols of a module: what each stands for, how large it is, and which symbols its body names.
use Rattle.std.specs.Prelude.{ℕ, ◌+◌, ◌*◌, ◌/◌, Bool, true, false, List, [], Option, Some, None, length, sum_by, flat_map, unwrap_or}
use Rattle.p9_abs.specs.declared.instructions.Operand.{Operand}
use Rattle.p9_abs.specs.declared.instructions.Operand.TheVariants.{AddrSB, MemSB, Func}
use Rattle.p9_abs.specs.declared.modules.DataPiece.{DataPiece}
use Rattle.p9_abs.specs.declared.modules.DataPiece.TheVariants.{Raw, Address}
use Rattle.p9_abs.specs.declared.modules.Body.{Body}
use Rattle.p9_abs.specs.declared.modules.Body.TheVariants.{Declared, Used, Text, Data, Common}
use Rattle.p9_abs.specs.declared.modules.Symbol.{Symbol}
use Rattle.p9_abs.specs.Forms.{weight_of, entry_weight}

-- the kinds of symbols
pub data SymbolKind : Type 0 where
  DeclaredKind : SymbolKind
  UsedKind : SymbolKind
  TextKind : SymbolKind
  DataKind : SymbolKind
  CommonKind : SymbolKind

abbrev pub kind_of : Body → SymbolKind
kind_of Declared = DeclaredKind
kind_of Used = UsedKind
kind_of (Text _) = TextKind
kind_of (Data _) = DataKind
kind_of (Common _) = CommonKind

-- the bytes of a piece of data: its own, or the four of an address
abbrev pub piece_size : DataPiece → ℕ
piece_size (Raw bytes) = length bytes
piece_size (Address _ _) = 4

abbrev pub pieces_size : List DataPiece → ℕ
pieces_size pieces = sum_by piece_size pieces

-- the bytes of a data or common definition
abbrev pub size_of : Body → Option ℕ
size_of Declared = None
size_of Used = None
size_of (Text _) = None
size_of (Data pieces) = Some (pieces_size pieces)
size_of (Common size) = Some size

-- data, text and common are definitions
abbrev pub is_definition : Body → Bool
is_definition Declared = false
is_definition Used = false
is_definition (Text _) = true
is_definition (Data _) = true
is_definition (Common _) = true

abbrev pub is_text : Body → Bool
is_text (Text _) = true
is_text _ = false

-- text and data are full definitions, which stand before common ones
abbrev pub is_full : Body → Bool
is_full (Text _) = true
is_full (Data _) = true
is_full _ = false

-- a size rounded up to a multiple of 4
abbrev pub rounded : ℕ → ℕ
rounded size = (size + 3) / 4 * 4

-- the bytes of a module's data and common objects, each rounded up
abbrev pub data_size : List Symbol → ℕ
data_size symbols = sum_by (λ s. rounded (unwrap_or (size_of s.body) 0)) symbols

-- the symbol that an operand names
abbrev pub named_by_operand : Operand → Option ℕ
named_by_operand (AddrSB symbol _) = Some symbol
named_by_operand (MemSB symbol _) = Some symbol
named_by_operand (Func symbol) = Some symbol
named_by_operand _ = None

-- the symbol that a piece of data names
abbrev pub named_by_piece : DataPiece → Option ℕ
named_by_piece (Raw _) = None
named_by_piece (Address symbol _) = Some symbol

-- the operands of a body's instructions, in order
abbrev pub operands_of : Body → List Operand
operands_of (Text def) = flat_map (λ a. a.operands) def.code
operands_of _ = []

-- the pieces of a body's data, in order
abbrev pub pieces_of : Body → List DataPiece
pieces_of (Data pieces) = pieces
pieces_of _ = []

-- what the functions of these symbols weigh, with their entries
abbrev pub body_weight : Body → ℕ
body_weight (Text def) = entry_weight + sum_by weight_of def.code
body_weight _ = 0

abbrev pub symbols_weight : List Symbol → ℕ
symbols_weight symbols = sum_by (λ s. body_weight s.body) symbols
