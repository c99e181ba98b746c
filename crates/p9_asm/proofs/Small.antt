-- The numbers of a file's statements are words.
use Rattle.std.proofs.Common.{◌≡◌, ℕ, ◌+◌, ◌==◌, Bool, true, false, cond, List, [], ◌∷◌, map, Option, Some, None, IfSome, sym, subst}
use Rattle.std.specs.List.{enumerate_from}
use Rattle.p9_base.proofs.Holding.{extended8-word}
use Rattle.p9_object.specs.Laws.{IsWord}
use Rattle.p9_lex.specs.declared.token.Dialect.{Dialect}
use Rattle.p9_lex.specs.declared.token.Token.{Token}
use Rattle.p9_lex.specs.declared.token.TokenKind.{TokenKind}
use Rattle.p9_lex.specs.declared.token.TokenKind.TheVariants as kinds
use Rattle.p9_lex.specs.Spelling.{Spells}
use Rattle.p9_lex.specs.Made.{is_line_end, IfEnd, AreTokens}
use Rattle.p9_statement.specs.declared.lexemes.Lexeme.{Lexeme}
use Rattle.p9_statement.specs.declared.lexemes.Lexeme.TheVariants as lexemes
use Rattle.p9_statement.specs.declared.statements.Line.{Line}
use Rattle.p9_statement.specs.Lexemes.{mark_lexeme, is_signature, lexeme_of}
use Rattle.p9_statement.specs.Statements.{line_of}
use Rattle.p9_rows.specs.declared.rows.Place.{Place}
use Rattle.p9_rows.specs.declared.rows.Row.{Row}
use Rattle.p9_rows.specs.Rows.{first_by, lexeme_by, place_in, lexemes_of, lines_of, after_content, rows_from, rows_of, before_all}
use Rattle.p9_asm.specs.Files.{statement_in}
use Rattle.p9_asm.proofs.Options.{Each}
use Rattle.p9_asm.proofs.Spelled.{lines_each}
use Rattle.p9_asm.proofs.Sized.{IsSmall, IsSizedStatement, IsSizedLine, line_sized}

-- Tokens

abbrev pub IsSmallKind : TokenKind → Type 0
IsSmallKind (kinds.Number value unsigned long) = IsWord value
IsSmallKind (kinds.Char value) = IsWord value
IsSmallKind _ = Unit {0}

abbrev pub IsSmallToken : Token → Type 0
IsSmallToken t = IsSmallKind t.kind

kind_small : (d : Dialect) (kind : TokenKind) (bytes after : List ℕ) → Spells d kind bytes after → IsSmallKind kind
kind_small d (kinds.Number value unsigned long) bytes after h = h.small
kind_small d (kinds.Char value) bytes after h = subst IsWord (sym h.valued) (extended8-word h.byte)
kind_small d (kinds.Word name) bytes after h = tt
kind_small d (kinds.Text values) bytes after h = tt
kind_small d (kinds.Mark m) bytes after h = tt
kind_small d kinds.NewLine bytes after h = tt
kind_small d kinds.End bytes after h = tt

none_small : (ts : List Token) → ts ≡ [] → Each IsSmallToken ts
none_small [] e = tt
none_small (t ∷ ts) e = absurd (cc)

rest_small : (kind : TokenKind) (ts : List Token) (P : Type 0) → (P → Each IsSmallToken ts) → IfEnd kind (ts ≡ []) P → Each IsSmallToken ts
rest_small (kinds.Word name) ts P f h = f h
rest_small (kinds.Number v u l) ts P f h = f h
rest_small (kinds.Char v) ts P f h = f h
rest_small (kinds.Text v) ts P f h = f h
rest_small (kinds.Mark m) ts P f h = f h
rest_small kinds.NewLine ts P f h = f h
rest_small kinds.End ts P f h = none_small ts h

pub tokens_small : (d : Dialect) (place : ℕ) (first joined : Bool) (bytes : List ℕ) (ts : List Token) → AreTokens d place first joined bytes ts → Each IsSmallToken ts
tokens_small d place first joined bytes [] h = absurd h
tokens_small d place first joined bytes (t ∷ ts) h = (
  kind_small d t.kind h.1.bytes h.0 h.1.spelled,
  rest_small t.kind ts (AreTokens d t.end (is_line_end t.kind) true h.0 ts) (λ k. tokens_small d t.end (is_line_end t.kind) true h.0 ts k) h.2,
)

-- Lexemes

if_small : (b : Bool) (x y : Lexeme) → IsSmall x → IsSmall y → IsSmall (cond b x y)
if_small true x y h k = h
if_small false x y h k = k

mark_small : (m : ℕ) → IsSmall (mark_lexeme m)
mark_small m = if_small (m == 2) lexemes.Open (cond (m == 3) lexemes.Close (cond (m == 7) lexemes.Comma (cond (m == 14) lexemes.Plus (cond (m == 15) lexemes.Minus (cond (m == 18) lexemes.Slash (cond (m == 22) lexemes.Less (cond (m == 23) lexemes.Greater (cond (m == 33) lexemes.Colon (cond (m == 46) lexemes.Dollar lexemes.Other))))))))) tt (if_small (m == 3) lexemes.Close (cond (m == 7) lexemes.Comma (cond (m == 14) lexemes.Plus (cond (m == 15) lexemes.Minus (cond (m == 18) lexemes.Slash (cond (m == 22) lexemes.Less (cond (m == 23) lexemes.Greater (cond (m == 33) lexemes.Colon (cond (m == 46) lexemes.Dollar lexemes.Other)))))))) tt (if_small (m == 7) lexemes.Comma (cond (m == 14) lexemes.Plus (cond (m == 15) lexemes.Minus (cond (m == 18) lexemes.Slash (cond (m == 22) lexemes.Less (cond (m == 23) lexemes.Greater (cond (m == 33) lexemes.Colon (cond (m == 46) lexemes.Dollar lexemes.Other))))))) tt (if_small (m == 14) lexemes.Plus (cond (m == 15) lexemes.Minus (cond (m == 18) lexemes.Slash (cond (m == 22) lexemes.Less (cond (m == 23) lexemes.Greater (cond (m == 33) lexemes.Colon (cond (m == 46) lexemes.Dollar lexemes.Other)))))) tt (if_small (m == 15) lexemes.Minus (cond (m == 18) lexemes.Slash (cond (m == 22) lexemes.Less (cond (m == 23) lexemes.Greater (cond (m == 33) lexemes.Colon (cond (m == 46) lexemes.Dollar lexemes.Other))))) tt (if_small (m == 18) lexemes.Slash (cond (m == 22) lexemes.Less (cond (m == 23) lexemes.Greater (cond (m == 33) lexemes.Colon (cond (m == 46) lexemes.Dollar lexemes.Other)))) tt (if_small (m == 22) lexemes.Less (cond (m == 23) lexemes.Greater (cond (m == 33) lexemes.Colon (cond (m == 46) lexemes.Dollar lexemes.Other))) tt (if_small (m == 23) lexemes.Greater (cond (m == 33) lexemes.Colon (cond (m == 46) lexemes.Dollar lexemes.Other)) tt (if_small (m == 33) lexemes.Colon (cond (m == 46) lexemes.Dollar lexemes.Other) tt (if_small (m == 46) lexemes.Dollar lexemes.Other tt tt)))))))))

lexeme_small : (place first : ℕ) (kind : TokenKind) → IsSmallKind kind → IsSmall (lexeme_of place first kind)
lexeme_small place first (kinds.Word name) h = tt
lexeme_small place first (kinds.Number value unsigned long) h = h
lexeme_small place first (kinds.Char value) h = h
lexeme_small place first (kinds.Text bytes) h = if_small (is_signature bytes) (lexemes.Text place) lexemes.Other tt tt
lexeme_small place first (kinds.Mark m) h = mark_small m
lexeme_small place first kinds.NewLine h = tt
lexeme_small place first kinds.End h = tt

lexemes_small : (known : List ℕ → Option ℕ) (i : ℕ) (rest : List Token) → Each IsSmallToken rest → Each IsSmall (map (lexeme_by known) (enumerate_from i rest))
lexemes_small known i [] h = tt
lexemes_small known i (t ∷ rest) h = (lexeme_small i (first_by known i t.kind) t.kind h.0, lexemes_small known (i + 1) rest h.1)

-- Lines

abbrev pub IsSizedRow : Row → Type 0
IsSizedRow row = IfSome (statement_in row.content) IsSizedStatement

content_sized : (content : Option Line) → IfSome content IsSizedLine → IfSome (statement_in content) IsSizedStatement
content_sized None h = tt
content_sized (Some line) h = h

rows_from_sized : (index token : ℕ) (place : Place) (lines : List (List Lexeme)) → Each (Each IsSmall) lines → Each IsSizedRow (rows_from index token place lines)
rows_from_sized index token place [] h = tt
rows_from_sized index token place (line ∷ rest) h =
    (content_sized (line_of line) (line_sized line h.0), rows_from_sized (index + 1) _ (after_content index place (line_of line)) rest h.1)

pub rows_sized : (tokens : List Token) → Each IsSmallToken tokens → Each IsSizedRow (rows_of (lexemes_of tokens))
rows_sized tokens h =
    rows_from_sized 0 0 before_all (lines_of (lexemes_of tokens)) (lines_each IsSmall (lexemes_of tokens) (lexemes_small (place_in tokens) 0 tokens h))
