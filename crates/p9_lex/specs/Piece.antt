-- A file is made of pieces: what is passed over, ends of lines, and tokens. A piece is told by its
-- first byte and the rest of the file after it.
use Rattle.std.specs.Prelude.{ℕ, ◌+◌, ◌==◌, nat_lt, List, [], ◌∷◌, take, Result, Ok, Err, if◌then◌else◌}
use Rattle.p9_lex.specs.declared.broken.Break.{Break}
use Rattle.p9_lex.specs.declared.piece.Piece.{Piece}
use Rattle.p9_lex.specs.declared.piece.Piece.TheVariants.{Blank, LineEnd, Token}
use Rattle.p9_lex.specs.declared.piece.Found.{Found}
use Rattle.p9_lex.specs.declared.token.Dialect.{Dialect}
use Rattle.p9_lex.specs.declared.token.TokenKind.TheVariants.{Word, Number, Char, Text, Mark}
use Rattle.p9_lex.specs.Classes.{is_blank, is_newline, is_name_start, is_name_byte, is_digit}
use Rattle.p9_lex.specs.Broken.{bad_byte}
use Rattle.p9_lex.specs.Blank.{line_comment, block_comment}
use Rattle.p9_lex.specs.Number.{number}
use Rattle.p9_lex.specs.Quoted.{then_read, character, text}
use Rattle.p9_lex.specs.Mark.{longest_mark}

abbrev pub found : Piece → (length : ℕ) → Result Found Break
found piece length = Ok (record { piece = piece; length = length })

-- how many letters, digits and `_` stand at the front
abbrev pub name_bytes : List ℕ → ℕ
name_bytes [] = 0
name_bytes (b ∷ s) = if is_name_byte b then name_bytes s + 1 else 0

-- a name has at most 255 bytes
unfoldable pub word : (first : ℕ) → List ℕ → Result Found Break
word first s =
    if nat_lt (name_bytes s) 255 then found (Token (Word (first ∷ take (name_bytes s) s))) (name_bytes s + 1)
    else Err (bad_byte 255)

-- a backslash is passed over with the newline directly after it
abbrev pub continued_line : List ℕ → Result Found Break
continued_line [] = Err (bad_byte 0)
continued_line (b ∷ s) = if is_newline b then found Blank 2 else Err (bad_byte 0)

abbrev pub number_piece : (first : ℕ) → List ℕ → Result Found Break
number_piece first s =
    then_read (number first s) (λ n. found (Token (Number n.value n.unsigned n.long)) n.length)

abbrev pub character_piece : List ℕ → Result Found Break
character_piece s = then_read (character s) (λ c. found (Token (Char c.value)) c.length)

abbrev pub text_piece : List ℕ → Result Found Break
text_piece s = then_read (text 0 1 s) (λ t. found (Token (Text t.bytes)) t.length)

abbrev pub mark_piece : Dialect → (first : ℕ) → List ℕ → Result Found Break
mark_piece dialect first s = then_read (longest_mark dialect first s) (λ m. found (Token (Mark m.number)) m.length)

-- after a `/`: a comment, or a mark
abbrev pub slash : Dialect → List ℕ → Result Found Break
slash dialect [] = mark_piece dialect 47 []
slash dialect (b ∷ s) =
    if b == 47 then then_read (line_comment 2 s) (λ n. found Blank n)
    else (if b == 42 then then_read (block_comment 2 s) (λ n. found Blank n)
    else mark_piece dialect 47 (b ∷ s))

unfoldable pub piece : Dialect → (first : ℕ) → List ℕ → Result Found Break
piece dialect first s =
    if is_blank first then found Blank 1
    else (if is_newline first then found LineEnd 1
    else (if first == 92 then continued_line s
    else (if first == 47 then slash dialect s
    else (if is_name_start first then word first s
    else (if is_digit first then number_piece first s
    else (if first == 39 then character_piece s
    else (if first == 34 then text_piece s
    else mark_piece dialect first s)))))))
