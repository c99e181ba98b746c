-- The tokens of a line, as the grammar of statements sees them.
use Rattle.std.specs.Prelude.{ℕ, ◌==◌, nat_le, Bool, ◌&&◌, not, List, length, if◌then◌else◌}
use Rattle.std.specs.List.{list_all}
use Rattle.p9_lex.specs.declared.token.TokenKind.{TokenKind}
use Rattle.p9_lex.specs.declared.token.TokenKind.TheVariants as kinds
use Rattle.p9_statement.specs.declared.lexemes.Lexeme.{Lexeme}
use Rattle.p9_statement.specs.declared.lexemes.Lexeme.TheVariants.{Word, Number, Character, Text, Open, Close, Comma, Plus, Minus, Slash, Less, Greater, Colon, Dollar, LineEnd, Other}
use Rattle.p9_statement.specs.Words.{sense_of}

-- the marks of the language, by their numbers among the lexer's
abbrev pub mark_lexeme : ℕ → Lexeme
mark_lexeme m =
    if m == 2 then Open else
    if m == 3 then Close else
    if m == 7 then Comma else
    if m == 14 then Plus else
    if m == 15 then Minus else
    if m == 18 then Slash else
    if m == 22 then Less else
    if m == 23 then Greater else
    if m == 33 then Colon else
    if m == 46 then Dollar else Other

-- a byte that shows and is no blank, no quote and no backslash
abbrev pub is_signature_byte : ℕ → Bool
is_signature_byte b = nat_le 33 b && nat_le b 126 && not (b == 34) && not (b == 92)

abbrev pub is_signature : List ℕ → Bool
is_signature bytes = nat_le (length bytes) 65536 && list_all is_signature_byte bytes

-- a text that is no signature fits no statement
abbrev pub text_lexeme : (place : ℕ) → List ℕ → Lexeme
text_lexeme place bytes = if is_signature bytes then Text place else Other

-- The token at a place of its file. A word goes by the place where its spelling stands first, and a
-- text by its own place.
abbrev pub lexeme_of : (place first : ℕ) → TokenKind → Lexeme
lexeme_of place first (kinds.Word name) = Word first (sense_of name)
lexeme_of place first (kinds.Number value unsigned long) = Number value
lexeme_of place first (kinds.Char value) = Character value
lexeme_of place first (kinds.Text bytes) = text_lexeme place bytes
lexeme_of place first (kinds.Mark m) = mark_lexeme m
lexeme_of place first kinds.NewLine = LineEnd
lexeme_of place first kinds.End = LineEnd
