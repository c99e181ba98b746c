-- How the bytes of a token spell it, by the rule of its kind, and what may not follow them; and what
-- is passed over between tokens.
use Rattle.std.specs.Prelude.{ℕ, ◌+◌, ◌*◌, ◌^◌, ◌≡◌, ◌<◌, ◌≤◌, Bool, true, false, ◌||◌, ◌&&◌, ◌==◌, List, [], ◌∷◌, ◌++◌, length, Some, None, if◌then◌else◌}
use Rattle.p9_base.specs.Numbers.{sign_extended}
use Rattle.p9_lex.specs.declared.token.Dialect.{Dialect}
use Rattle.p9_lex.specs.declared.token.Dialect.TheVariants.{Asm}
use Rattle.p9_lex.specs.declared.token.TokenKind.{TokenKind}
use Rattle.p9_lex.specs.declared.token.TokenKind.TheVariants as kinds
use Rattle.p9_lex.specs.Classes.{is_blank, is_newline, is_name_start, is_name_byte, digit_value, is_digit_of}
use Rattle.p9_lex.specs.Blank.{begins}
use Rattle.p9_lex.specs.Number.{is_unsigned_mark, is_long_mark}
use Rattle.p9_lex.specs.Quoted.{simple_escape}
use Rattle.p9_lex.specs.Mark.{mark_number}

-- each byte is of a class
abbrev pub AllOf : (ℕ → Bool) → List ℕ → Type 0
AllOf class [] = Unit {0}
AllOf class (b ∷ s) = (class b ≡ true) × AllOf class s

-- the next byte, if there is one, isn't of a class
abbrev pub NotNext : (ℕ → Bool) → List ℕ → Type 0
NotNext class [] = Unit {0}
NotNext class (b ∷ s) = class b ≡ false

-- Names

abbrev pub IsName : List ℕ → Type 0
IsName [] = ⊥
IsName (b ∷ s) = (is_name_start b ≡ true) × AllOf is_name_byte s × (length s < 255)

-- Numbers

-- the value of digits, behind a value
abbrev pub value_after : (base value : ℕ) → List ℕ → ℕ
value_after base value [] = value
value_after base value (d ∷ ds) = value_after base (base * value + digit_value d) ds

abbrev pub value_in : (base : ℕ) → List ℕ → ℕ
value_in base ds = value_after base 0 ds

-- a number's base, by what stands before its digits and by the first of these
pub data IsBase : ℕ → List ℕ → List ℕ → Type 0 where
  base_10 : {b : ℕ} {ds : List ℕ} → (b == 48) ≡ false → IsBase 10 [] (b ∷ ds)
  base_8 : {ds : List ℕ} → IsBase 8 [] (48 ∷ ds)
  base_16 : {x d : ℕ} {ds : List ℕ} → (x == 120 || x == 88) ≡ true → IsBase 16 (48 ∷ x ∷ []) (d ∷ ds)

-- what stands behind a number's digits: at most one `u` and at most one `l`
pub data IsSuffix : Bool → Bool → List ℕ → Type 0 where
  no_suffix : IsSuffix false false []
  unsigned_suffix : {b : ℕ} → is_unsigned_mark b ≡ true → IsSuffix true false (b ∷ [])
  long_suffix : {b : ℕ} → is_long_mark b ≡ true → IsSuffix false true (b ∷ [])
  unsigned_long : {b c : ℕ} → is_unsigned_mark b ≡ true → is_long_mark c ≡ true → IsSuffix true true (b ∷ c ∷ [])
  long_unsigned : {b c : ℕ} → is_long_mark b ≡ true → is_unsigned_mark c ≡ true → IsSuffix true true (b ∷ c ∷ [])

abbrev pub may_not_follow_number : ℕ → Bool
may_not_follow_number b = is_name_byte b || b == 46

pub record IsNumber (value : ℕ) (unsigned long : Bool) (bytes after : List ℕ) : Type 0 where
  pub base : ℕ
  pub front : List ℕ
  pub digits : List ℕ
  pub suffix : List ℕ
  pub spelled : bytes ≡ front ++ digits ++ suffix
  pub based : IsBase base front digits
  pub all_digits : AllOf (is_digit_of base) digits
  pub valued : value ≡ value_in base digits
  pub small : value < 2 ^ 32
  pub marked : IsSuffix unsigned long suffix
  pub ends : NotNext may_not_follow_number after

-- Characters and texts

-- the bytes that spell a byte between quotes of this kind
pub data IsItem (quote : ℕ) : List ℕ → ℕ → Type 0 where
  plain : {b : ℕ} → (b == quote) ≡ false → is_newline b ≡ false → (b == 0) ≡ false → (b == 92) ≡ false → IsItem quote (b ∷ []) b
  simple : {e value : ℕ} → simple_escape e ≡ Some value → IsItem quote (92 ∷ e ∷ []) value
  octal : {value : ℕ} → (ds : List ℕ) → AllOf (is_digit_of 8) ds → 1 ≤ length ds → length ds ≤ 3 → value ≡ value_in 8 ds → value < 256 → IsItem quote (92 ∷ ds) value
  hexadecimal : {value : ℕ} → (ds : List ℕ) → AllOf (is_digit_of 16) ds → 1 ≤ length ds → length ds ≤ 2 → value ≡ value_in 16 ds → IsItem quote (92 ∷ 120 ∷ ds) value

-- the bytes that spell a text's bytes
pub data AreItems (quote : ℕ) : List ℕ → List ℕ → Type 0 where
  no_items : AreItems quote [] []
  items : {value : ℕ} {spelled values : List ℕ} → (first : List ℕ) → IsItem quote first value → AreItems quote spelled values → AreItems quote (first ++ spelled) (value ∷ values)

pub record IsCharacter (value : ℕ) (bytes : List ℕ) : Type 0 where
  pub inner : List ℕ
  pub byte : ℕ
  pub spelled : bytes ≡ 39 ∷ (inner ++ 39 ∷ [])
  pub item : IsItem 39 inner byte
  pub valued : value ≡ sign_extended 8 byte

pub record IsText (values bytes : List ℕ) : Type 0 where
  pub inner : List ℕ
  pub spelled : bytes ≡ 34 ∷ (inner ++ 34 ∷ [])
  pub each : AreItems 34 inner values

-- Marks

-- no mark is spelled by these bytes and some of those after them
abbrev pub NoneLonger : Dialect → (bytes after : List ℕ) → Type 0
NoneLonger dialect bytes after =
    (b : ℕ) (more rest : List ℕ) → after ≡ b ∷ (more ++ rest) → mark_number dialect (bytes ++ b ∷ more) ≡ None

-- Tokens

abbrev pub Spells : Dialect → TokenKind → (bytes after : List ℕ) → Type 0
Spells dialect (kinds.Word name) bytes after = (bytes ≡ name) × IsName name × NotNext is_name_byte after
Spells dialect (kinds.Number value unsigned long) bytes after = IsNumber value unsigned long bytes after
Spells dialect (kinds.Char value) bytes after = IsCharacter value bytes
Spells dialect (kinds.Text values) bytes after = IsText values bytes
Spells dialect (kinds.Mark m) bytes after = (mark_number dialect bytes ≡ Some m) × NoneLonger dialect bytes after
Spells dialect kinds.NewLine bytes after = (dialect ≡ Asm) × (bytes ≡ 10 ∷ [])
Spells dialect kinds.End bytes after = (bytes ≡ []) × (after ≡ [])

-- What is passed over

abbrev pub is_comment_byte : ℕ → Bool
is_comment_byte b = if is_newline b then false else (if b == 0 then false else true)

abbrev pub IsLineEnd : List ℕ → Type 0
IsLineEnd [] = Unit {0}
IsLineEnd (b ∷ s) = is_newline b ≡ true

-- no byte is zero, and nowhere stands `*/`
abbrev pub IsUnclosed : List ℕ → Type 0
IsUnclosed [] = Unit {0}
IsUnclosed (b ∷ s) = ((b == 0) ≡ false) × ((b == 42 && begins 47 s) ≡ false) × IsUnclosed s

-- a blank, a backslash with its newline, or a comment
pub data IsBlank : (bytes after : List ℕ) → Type 0 where
  blank : {b : ℕ} {after : List ℕ} → is_blank b ≡ true → IsBlank (b ∷ []) after
  continued : {after : List ℕ} → IsBlank (92 ∷ 10 ∷ []) after
  to_line_end : {body after : List ℕ} → AllOf is_comment_byte body → IsLineEnd after → IsBlank (47 ∷ 47 ∷ body) after
  closed : {after : List ℕ} → (body : List ℕ) → IsUnclosed (body ++ 42 ∷ []) → IsBlank (47 ∷ 42 ∷ (body ++ 42 ∷ 47 ∷ [])) after
