-- The lines of a file: what each is, and where in which function it stands.
use Rattle.std.specs.Prelude.{ℕ, ◌+◌, Bool, true, false, List, [], ◌∷◌, length, map, Option, Some, None, unwrap_or, bytes_eq, if◌then◌else◌}
use Rattle.std.specs.List.{enumerate_from, position_from}
use Rattle.p9_lex.specs.declared.token.Token.{Token}
use Rattle.p9_lex.specs.declared.token.TokenKind.{TokenKind}
use Rattle.p9_lex.specs.declared.token.TokenKind.TheVariants as kinds
use Rattle.p9_statement.specs.declared.lexemes.Lexeme.{Lexeme}
use Rattle.p9_statement.specs.declared.lexemes.Lexeme.TheVariants as lexemes
use Rattle.p9_statement.specs.declared.statements.Statement.{Statement}
use Rattle.p9_statement.specs.declared.statements.Statement.TheVariants as statements
use Rattle.p9_statement.specs.declared.statements.Line.{Line}
use Rattle.p9_statement.specs.Lexemes.{lexeme_of}
use Rattle.p9_statement.specs.Statements.{line_of}
use Rattle.p9_rows.specs.declared.rows.Place.{Place}
use Rattle.p9_rows.specs.declared.rows.Row.{Row}

-- Tokens: a word goes by the place where its spelling stands first

abbrev pub spells : List ℕ → TokenKind → Bool
spells name (kinds.Word word) = bytes_eq name word
spells name _ = false

abbrev pub is_word : List ℕ → Token → Bool
is_word name t = spells name t.kind

-- a word goes by what is known of its spelling, and any other token by its own place
abbrev pub first_by : (List ℕ → Option ℕ) → ℕ → TokenKind → ℕ
first_by known place (kinds.Word name) = unwrap_or (known name) place
first_by known place _ = place

abbrev pub lexeme_by : (List ℕ → Option ℕ) → (ℕ × Token) → Lexeme
lexeme_by known e = lexeme_of e.0 (first_by known e.0 e.1.kind) e.1.kind

abbrev pub lexemes_by : (List ℕ → Option ℕ) → List Token → List Lexeme
lexemes_by known tokens = map (lexeme_by known) (enumerate_from 0 tokens)

-- the place where a name stands first
abbrev pub place_in : List Token → List ℕ → Option ℕ
place_in tokens name = position_from (is_word name) 0 tokens

abbrev pub lexemes_of : List Token → List Lexeme
lexemes_of tokens = lexemes_by (place_in tokens) tokens

-- Lines: what stands between ends of lines

abbrev pub is_line_end : Lexeme → Bool
is_line_end lexemes.LineEnd = true
is_line_end _ = false

abbrev pub in_first : Lexeme → List (List Lexeme) → List (List Lexeme)
in_first l [] = (l ∷ []) ∷ []
in_first l (first ∷ others) = (l ∷ first) ∷ others

abbrev pub lines_of : List Lexeme → List (List Lexeme)
lines_of [] = [] ∷ []
lines_of (l ∷ rest) = if is_line_end l then [] ∷ lines_of rest else in_first l (lines_of rest)

-- Functions: a line belongs to that of the nearest TEXT line above it, and instructions are counted
-- in their function

abbrev pub before_all : Place
before_all = record { function = None; frame = 0; number = 0 }

abbrev pub after_statement : (index : ℕ) → Place → Option Statement → Place
after_statement index place (Some (statements.Text s frame)) = record { function = Some index; frame = frame; number = 0 }
after_statement index place (Some (statements.Instruction op given)) = record place { number = place.number + 1 }
after_statement index place _ = place

abbrev pub after_content : (index : ℕ) → Place → Option Line → Place
after_content index place None = place
after_content index place (Some line) = after_statement index place line.statement

-- the rows of lines from one on, whose first token and place in its function are these
abbrev pub rows_from : (index token : ℕ) → Place → List (List Lexeme) → List Row
rows_from index token place [] = []
rows_from index token place (line ∷ rest) =
    record { token = token; content = line_of line; place = place }
    ∷ rows_from (index + 1) (token + length line + 1) (after_content index place (line_of line)) rest

abbrev pub rows_of : List Lexeme → List Row
rows_of lexemes = rows_from 0 0 before_all (lines_of lexemes)
