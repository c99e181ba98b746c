-- The bytes and addresses of initialised data.
use Rattle.std.specs.Prelude.{ℕ, suc, zero, ◌+◌, ◌-◌, ◌/◌, ◌%◌, ◌==◌, List, [], ◌∷◌, Option, Some, None, unwrap_or, option_and_then, if◌then◌else◌}
use Rattle.p9_abs.specs.declared.modules.DataPiece.{DataPiece}
use Rattle.p9_abs.specs.declared.modules.DataPiece.TheVariants as piece
use Rattle.p9_statement.specs.declared.operands.SymbolName.{SymbolName}
use Rattle.p9_statement.specs.declared.statements.Datum.{Datum}
use Rattle.p9_statement.specs.declared.statements.Datum.TheVariants as data_values
use Rattle.p9_statement.specs.declared.statements.Statement.{Statement}
use Rattle.p9_statement.specs.declared.statements.Statement.TheVariants as statements
use Rattle.p9_facts.specs.Facts.{byte_of}
use Rattle.p9_asm.specs.declared.pieces.Cell.{Cell}
use Rattle.p9_asm.specs.declared.pieces.Cell.TheVariants.{Byte, Start, Inside}
use Rattle.p9_asm.specs.Files.{File, number_of, statement_at}

-- Bytes of a value, the highest first

abbrev pub half_byte : (value at : ℕ) → ℕ
half_byte value at = if at == 0 then value / 256 % 256 else value % 256

abbrev pub word_byte : (value at : ℕ) → ℕ
word_byte value at =
    if at == 0 then value / 16777216 % 256 else
    if at == 1 then value / 65536 % 256 else
    if at == 2 then value / 256 % 256 else value % 256

-- what stands at a place of a value
abbrev pub cell_of : Datum → (at : ℕ) → Cell
cell_of (data_values.Byte v) at = Byte (v % 256)
cell_of (data_values.Half v) at = Byte (half_byte v at)
cell_of (data_values.Word v) at = Byte (word_byte v at)
cell_of (data_values.Address s o) at = if at == 0 then Start s o else Inside

abbrev pub cell_in : (place : ℕ) → Option Statement → Option Cell
cell_in place (Some (statements.Data s o d)) = Some (cell_of d (place - o))
cell_in place _ = None

-- what stands at a place of a symbol: what a line gives, or else zero
unfoldable pub standing : File → SymbolName → (place : ℕ) → Cell
standing file s place = unwrap_or (cell_in place (option_and_then (statement_at file) (file.first (byte_of s place)))) (Byte 0)

-- Pieces: bytes that stand side by side are one

abbrev pub raw_in_front : (byte : ℕ) → List DataPiece → List DataPiece
raw_in_front b (piece.Raw bytes ∷ rest) = piece.Raw (b ∷ bytes) ∷ rest
raw_in_front b rest = piece.Raw (b ∷ []) ∷ rest

abbrev pub in_front : File → Cell → List DataPiece → List DataPiece
in_front file (Byte b) rest = raw_in_front b rest
in_front file (Start s o) rest = piece.Address (number_of file s) o ∷ rest
in_front file Inside rest = rest

-- the pieces of a symbol's data from a place on
abbrev pub pieces_from : File → SymbolName → (place left : ℕ) → List DataPiece
pieces_from file s place zero = []
pieces_from file s place (suc left) = in_front file (standing file s place) (pieces_from file s (place + 1) left)

-- bytes as a piece, if there are any
abbrev pub flushed : List ℕ → List DataPiece
flushed [] = []
flushed (b ∷ bytes) = piece.Raw (b ∷ bytes) ∷ []

-- bytes in front of pieces
abbrev pub bytes_in_front : List ℕ → List DataPiece → List DataPiece
bytes_in_front [] pieces = pieces
bytes_in_front (b ∷ bytes) pieces = raw_in_front b (bytes_in_front bytes pieces)
