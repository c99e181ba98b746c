-- A file is made of its tokens and of what is passed over between them.
use Rattle.std.specs.Prelude.{ℕ, ◌+◌, ◌≡◌, Bool, true, false, ◌||◌, ◌&&◌, List, [], ◌∷◌, ◌++◌, length}
use Rattle.p9_lex.specs.declared.token.Dialect.{Dialect}
use Rattle.p9_lex.specs.declared.token.Dialect.TheVariants.{C}
use Rattle.p9_lex.specs.declared.token.Token.{Token}
use Rattle.p9_lex.specs.declared.token.TokenKind.{TokenKind}
use Rattle.p9_lex.specs.declared.token.TokenKind.TheVariants as kinds
use Rattle.p9_lex.specs.Spelling.{Spells, IsBlank}
use Rattle.p9_lex.specs.Tokens.{line_of}

-- What is passed over: blanks, comments and continued lines; and in C also ends of lines, of which
-- `ended` says whether there is one.
pub data IsGap : Dialect → (bytes after : List ℕ) → (ended : Bool) → Type 0 where
  nothing : {d : Dialect} {after : List ℕ} → IsGap d [] after false
  blanks : {d : Dialect} {after : List ℕ} {ended : Bool} → (bytes gap : List ℕ) → IsBlank bytes (gap ++ after) → IsGap d gap after ended → IsGap d (bytes ++ gap) after ended
  line_end : {after : List ℕ} {ended : Bool} → (gap : List ℕ) → IsGap C gap after ended → IsGap C (10 ∷ gap) after true

abbrev pub is_empty : List ℕ → Bool
is_empty [] = true
is_empty (b ∷ s) = false

-- The next token of `rest`, which begins at a place; behind it stands `after`. `first` says that no
-- token has stood on the line yet, and `joined` that one ends at the place.
pub record IsToken (d : Dialect) (place : ℕ) (first joined : Bool) (rest : List ℕ) (t : Token) (after : List ℕ) : Type 0 where
  pub gap : List ℕ
  pub bytes : List ℕ
  pub ended : Bool
  pub cut : rest ≡ gap ++ (bytes ++ after)
  pub passed : IsGap d gap (bytes ++ after) ended
  pub spelled : Spells d t.kind bytes after
  pub starts : t.start ≡ place + length gap
  pub ends : t.end ≡ t.start + length bytes
  pub of_file : t.file ≡ 0
  pub is_first : t.first ≡ (first || ended)
  pub is_joined : t.joined ≡ (joined && is_empty gap)

abbrev pub is_line_end : TokenKind → Bool
is_line_end (kinds.Word name) = false
is_line_end (kinds.Number value unsigned long) = false
is_line_end (kinds.Char value) = false
is_line_end (kinds.Text values) = false
is_line_end (kinds.Mark m) = false
is_line_end kinds.NewLine = true
is_line_end kinds.End = false

-- one fact of the end, and another of every other token
abbrev pub IfEnd : TokenKind → Type 0 → Type 0 → Type 0
IfEnd (kinds.Word name) p q = q
IfEnd (kinds.Number value unsigned long) p q = q
IfEnd (kinds.Char value) p q = q
IfEnd (kinds.Text values) p q = q
IfEnd (kinds.Mark m) p q = q
IfEnd kinds.NewLine p q = q
IfEnd kinds.End p q = p

-- the tokens of the rest of a file: one after the other, and the end last and alone
abbrev pub AreTokens : Dialect → (place : ℕ) (first joined : Bool) (rest : List ℕ) → List Token → Type 0
AreTokens d place first joined rest [] = ⊥
AreTokens d place first joined rest (t ∷ ts) =
    (after : List ℕ) × IsToken d place first joined rest t after
    × IfEnd t.kind (ts ≡ []) (AreTokens d t.end (is_line_end t.kind) true after ts)

-- each token has the line of its first byte
abbrev pub HaveLines : (bytes : List ℕ) → List Token → Type 0
HaveLines bytes [] = Unit {0}
HaveLines bytes (t ∷ ts) = (t.line ≡ line_of bytes t.start) × HaveLines bytes ts
