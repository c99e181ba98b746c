-- The tokens of a file.
use Rattle.std.specs.Prelude.{ℕ, zero, suc, ◌+◌, ◌-◌, ◌≡◌, ◌≤◌, Bool, true, false, nat_lt, nat_le, List, [], ◌∷◌, ◌++◌, length, take, count_by, Option, Some, None, is_some, Result, Ok, Err, if◌then◌else◌}
use Rattle.p9_lex.specs.declared.broken.Break.{Break}
use Rattle.p9_lex.specs.declared.broken.Stop.{Stop}
use Rattle.p9_lex.specs.declared.broken.Reason.TheVariants as reason
use Rattle.p9_lex.specs.declared.broken.PieceFault.{PieceFault}
use Rattle.p9_lex.specs.declared.broken.PieceFault.TheVariants as piece_fault
use Rattle.p9_lex.specs.declared.piece.Piece.{Piece}
use Rattle.p9_lex.specs.declared.piece.Piece.TheVariants as pieces
use Rattle.p9_lex.specs.declared.piece.Found.{Found}
use Rattle.p9_lex.specs.declared.scan.ScanFault.{ScanFault}
use Rattle.p9_lex.specs.declared.scan.ScanFault.TheVariants as scan_fault
use Rattle.p9_lex.specs.declared.token.Dialect.{Dialect}
use Rattle.p9_lex.specs.declared.token.Dialect.TheVariants.{C, Asm}
use Rattle.p9_lex.specs.declared.token.Token.{Token}
use Rattle.p9_lex.specs.declared.token.TokenKind.{TokenKind}
use Rattle.p9_lex.specs.declared.token.TokenKind.TheVariants.{NewLine, End}
use Rattle.p9_lex.specs.declared.token.LexFault.{LexFault}
use Rattle.p9_lex.specs.declared.token.LexFault.TheVariants as fault
use Rattle.p9_lex.specs.Classes.{is_newline}
use Rattle.p9_lex.specs.Piece.{piece}

-- the token that a piece is, if it is one; an end of a line is one in the assembler alone
abbrev pub kind_of : Dialect → Piece → Option TokenKind
kind_of dialect pieces.Blank = None
kind_of C pieces.LineEnd = None
kind_of Asm pieces.LineEnd = Some NewLine
kind_of dialect (pieces.Token kind) = Some kind

-- whether a token after the piece is the first on its line, where `first` says so of the piece
abbrev pub first_after : (first : Bool) → Piece → Bool
first_after first pieces.Blank = first
first_after first pieces.LineEnd = true
first_after first (pieces.Token kind) = false

abbrev pub line_after : (byte line : ℕ) → ℕ
line_after byte line = if is_newline byte then line + 1 else line

abbrev pub tokens_at : Option TokenKind → (start end line : ℕ) (first joined : Bool) → List Token
tokens_at None start end line first joined = []
tokens_at (Some kind) start end line first joined =
    record { kind = kind; start = start; end = end; line = line; file = 0; first = first; joined = joined } ∷ []

-- tokens in front of those of the rest
abbrev pub in_front : List Token → Result (List Token) Stop → Result (List Token) Stop
in_front ts (Ok rest) = Ok (ts ++ rest)
in_front ts (Err stop) = Err stop

-- what follows a piece that begins at a place
abbrev pub after_piece : (place : ℕ) → Result Found Break → (Found → Result (List Token) Stop) → Result (List Token) Stop
after_piece place (Ok found) next = next found
after_piece place (Err e) next = Err (record { reason = e.reason; start = place; by = place + e.by })

-- The tokens of the rest of a file from a place on, without a limit on the place. `first` says that
-- no token has stood on the line yet, and `joined` that one ends there. The next `inside` bytes belong
-- to a piece that is read already; the byte after them begins a piece.
unfoldable pub scan : Dialect → (inside place line : ℕ) (first joined : Bool) → List ℕ → Result (List Token) Stop
scan dialect inside place line first joined [] = Ok (tokens_at (Some End) place place line first joined)
scan dialect (suc n) place line first joined (b ∷ s) =
    scan dialect n (place + 1) (line_after b line) first joined s
scan dialect zero place line first joined (b ∷ s) =
    after_piece place (piece dialect b s)
    (λ f. in_front (tokens_at (kind_of dialect f.piece) place (place + f.length) line first joined)
    (scan dialect (f.length - 1) (place + 1) (line_after b line) (first_after first f.piece) (is_some (kind_of dialect f.piece)) s))

-- The limit: byte 16,777,216 is bad, if no byte before it breaks a rule

abbrev pub max_bytes : ℕ
max_bytes = 16777216

abbrev pub too_long : Stop
too_long = record { reason = reason.BadByte; start = max_bytes; by = max_bytes }

abbrev pub first_stop : (count : ℕ) → Stop → Stop
first_stop count stop =
    if nat_le count max_bytes then stop
    else (if nat_lt stop.by max_bytes then stop
    else too_long)

abbrev pub limited : (bytes : List ℕ) → Result (List Token) Stop → Result (List Token) Stop
limited bytes (Ok ts) = if nat_le (length bytes) max_bytes then Ok ts else Err too_long
limited bytes (Err stop) = Err (first_stop (length bytes) stop)

-- The answer

-- lines are counted from 1
abbrev pub line_of : (bytes : List ℕ) (at : ℕ) → ℕ
line_of bytes at = count_by is_newline (take at bytes) + 1

-- a bad byte is named itself; a comment, text or number by its first byte
abbrev pub fault_by : reason.the_data → (bytes : List ℕ) (start by : ℕ) → LexFault
fault_by reason.BadByte bytes start by = fault.BadByte by (line_of bytes by)
fault_by reason.OpenComment bytes start by = fault.OpenComment start (line_of bytes start)
fault_by reason.OpenText bytes start by = fault.OpenText start (line_of bytes start)
fault_by reason.WideNumber bytes start by = fault.WideNumber start (line_of bytes start)

abbrev pub fault_of : (bytes : List ℕ) → Stop → LexFault
fault_of bytes stop = fault_by stop.reason bytes stop.start stop.by

abbrev pub answer_of : (bytes : List ℕ) → Result (List Token) Stop → Result (List Token) LexFault
answer_of bytes (Ok ts) = Ok ts
answer_of bytes (Err stop) = Err (fault_of bytes stop)

-- the tokens of a file, or how it breaks a rule
unfoldable pub lexed : Dialect → List ℕ → Result (List Token) LexFault
lexed dialect bytes = answer_of bytes (limited bytes (scan dialect 0 0 1 true false bytes))

-- want of memory has no rule
abbrev pub IsRefusal : Dialect → List ℕ → LexFault → Type 0
IsRefusal dialect bytes (fault.BadByte at line) = lexed dialect bytes ≡ Err (fault.BadByte at line)
IsRefusal dialect bytes (fault.OpenComment at line) = lexed dialect bytes ≡ Err (fault.OpenComment at line)
IsRefusal dialect bytes (fault.OpenText at line) = lexed dialect bytes ≡ Err (fault.OpenText at line)
IsRefusal dialect bytes (fault.WideNumber at line) = lexed dialect bytes ≡ Err (fault.WideNumber at line)
IsRefusal dialect bytes fault.Memory = Unit {0}

-- The steps of the function that reads a file

abbrev pub IsStop : ScanFault → Result (List Token) Stop → Type 0
IsStop (scan_fault.Stop stop) answer = answer ≡ Err stop
IsStop scan_fault.Memory answer = Unit {0}

abbrev pub IsStopWithin : (count : ℕ) → ScanFault → Type 0
IsStopWithin count (scan_fault.Stop stop) =
    (stop.start ≤ count) × (stop.by ≤ count) × (stop.start ≤ max_bytes) × (stop.by ≤ max_bytes)
IsStopWithin count scan_fault.Memory = Unit {0}

abbrev pub IsStopped : (count start : ℕ) → PieceFault → ScanFault → Type 0
IsStopped count start (piece_fault.Break e) answer =
    answer ≡ scan_fault.Stop (first_stop count (record { reason = e.reason; start = start; by = start + e.by }))
IsStopped count start piece_fault.Memory answer = answer ≡ scan_fault.Memory
