-- The places of the reader, as those of its definition, and what the bytes of a field make of them.
use Rattle.std.specs.Prelude.{ℕ, ◌-◌, Bool, List, Option, Some, None, Result, Ok, Err}
use Rattle.p9_abs.specs.declared.modules.DataPiece.{DataPiece}
use Rattle.p9_abs.specs.declared.modules.Symbol.{Symbol}
use Rattle.p9_object.specs.Machine as machine
use Rattle.p9_object.specs.Bytes.{field_of, piece_width, symbol_width, width_at, width_bytes}
use Rattle.p9_instr.specs.Places.{instruction_place}
use Rattle.p9_steps.specs.declared.places.PiecePlace as pieces
use Rattle.p9_steps.specs.declared.places.PiecePlace.TheVariants as piece
use Rattle.p9_steps.specs.declared.places.PieceTurn as piece_turns
use Rattle.p9_steps.specs.declared.places.PieceTurn.TheVariants as of_piece
use Rattle.p9_steps.specs.declared.places.Kind as kinds
use Rattle.p9_steps.specs.declared.places.Kind.TheVariants as of_kind
use Rattle.p9_steps.specs.declared.places.Head as heads
use Rattle.p9_steps.specs.declared.places.CodePart as code_parts
use Rattle.p9_steps.specs.declared.places.DataPart as data_parts
use Rattle.p9_steps.specs.declared.places.SymbolsPart as symbols_parts
use Rattle.p9_steps.specs.declared.places.SymbolPlace as symbols
use Rattle.p9_steps.specs.declared.places.SymbolPlace.TheVariants as symbol
use Rattle.p9_steps.specs.declared.places.SymbolTurn as symbol_turns
use Rattle.p9_steps.specs.declared.places.SymbolTurn.TheVariants as of_symbol
use Rattle.p9_steps.specs.declared.places.State as states
use Rattle.p9_steps.specs.declared.places.State.TheVariants as at
use Rattle.p9_steps.specs.declared.places.Step as nexts
use Rattle.p9_steps.specs.declared.places.Step.TheVariants as next

abbrev pub piece_place : pieces.PiecePlace → machine.PiecePlace
piece_place piece.Kind = machine.AtPiece
piece_place piece.RawLength = machine.AtRawLength
piece_place (piece.Raw n) = machine.AtRaw n
piece_place piece.Symbol = machine.AtPieceSymbol
piece_place (piece.Offset s) = machine.AtPieceOffset s

abbrev pub piece_turn : piece_turns.PieceTurn → machine.Turn machine.PiecePlace DataPiece
piece_turn of_piece.Bad = machine.Bad
piece_turn (of_piece.Stay place) = machine.Stay (piece_place place)
piece_turn (of_piece.Whole p) = machine.Whole p

abbrev pub kind : kinds.Kind → machine.Kind
kind of_kind.Declared = machine.DeclaredKind
kind of_kind.Used = machine.UsedKind
kind of_kind.Text = machine.TextKind
kind of_kind.Data = machine.DataKind
kind of_kind.Common = machine.CommonKind

abbrev pub head : heads.Head → machine.Head
head h = record { local = h.local; kind = kind h.kind; name = h.name; sig = h.sig }

-- among instructions, and among pieces of data

abbrev pub code_place : code_parts.CodePart → machine.SymbolPlace
code_place part = machine.InCode (head part.head) part.frame part.total part.before (instruction_place part.place)

abbrev pub data_place : data_parts.DataPart → machine.SymbolPlace
data_place part = machine.InPieces (head part.head) part.total part.before (piece_place part.place)

abbrev pub symbol_place : symbols.SymbolPlace → machine.SymbolPlace
symbol_place symbol.Binding = machine.AtBinding
symbol_place (symbol.Kind local) = machine.AtKind local
symbol_place (symbol.NameLength local k) = machine.AtNameLength local (kind k)
symbol_place (symbol.Name local k n) = machine.AtName local (kind k) n
symbol_place (symbol.SignatureLength local k name) = machine.AtSignatureLength local (kind k) name
symbol_place (symbol.Signature local k name n) = machine.AtSignature local (kind k) name n
symbol_place (symbol.Frame h) = machine.AtFrame (head h)
symbol_place (symbol.Total h frame) = machine.AtTotal (head h) frame
symbol_place (symbol.Code part) = code_place part
symbol_place (symbol.Pieces h) = machine.AtPieces (head h)
symbol_place (symbol.Data part) = data_place part
symbol_place (symbol.Size h) = machine.AtSize (head h)

abbrev pub symbol_turn : symbol_turns.SymbolTurn → machine.Turn machine.SymbolPlace Symbol
symbol_turn of_symbol.Bad = machine.Bad
symbol_turn (of_symbol.Stay place) = machine.Stay (symbol_place place)
symbol_turn (of_symbol.Whole s) = machine.Whole s

abbrev pub symbols_state : symbols_parts.SymbolsPart → machine.State
symbols_state part = machine.InSymbols part.count part.found.symbols (symbol_place part.place)

abbrev pub state : states.State → machine.State
state at.Magic = machine.AtMagic
state at.Version = machine.AtVersion
state at.Count = machine.AtCount
state (at.InSymbols part) = symbols_state part
state (at.Done found) = machine.Done found

abbrev pub next_state : nexts.Step → Result machine.State machine.Break
next_state (next.Next s) = Ok (state s)
next_state next.NoObject = Err machine.NoObject
next_state (next.OtherVersion v) = Err (machine.OtherVersion v)

-- What the bytes of a field make of a place

abbrev pub piece_read : (symbols : ℕ) → (before : List DataPiece) → (behind : ℕ) → machine.PiecePlace → (bytes : List ℕ) → machine.Turn machine.PiecePlace DataPiece
piece_read symbols before behind place bytes =
    machine.piece_step symbols before behind place (field_of (piece_width place) bytes)

abbrev pub symbol_read : (symbols : ℕ) → List Symbol → machine.SymbolPlace → (bytes : List ℕ) → machine.Turn machine.SymbolPlace Symbol
symbol_read symbols seen place bytes = machine.symbol_step symbols seen place (field_of (symbol_width place) bytes)

abbrev pub state_read : machine.State → (bytes : List ℕ) → Result machine.State machine.Break
state_read s bytes = machine.step s (field_of (width_at s) bytes)

-- how many bytes the next field has; none comes behind an object
abbrev pub wanted : machine.State → Option ℕ
wanted machine.AtMagic = Some 4
wanted machine.AtVersion = Some 4
wanted machine.AtCount = Some 4
wanted (machine.InSymbols count before place) = Some (width_bytes (symbol_width place))
wanted (machine.Done symbols) = None
