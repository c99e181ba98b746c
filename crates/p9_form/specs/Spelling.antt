-- How a file of the form is spelled: the bytes of its tokens, which spaces, tabs and newlines may
-- stand between.
use Rattle.std.specs.Prelude.{◌≡◌, ◌≤◌, ℕ, Bool, false, ◌&&◌, ◌||◌, ◌==◌, if◌then◌else◌, IsTrue, List, [], ◌∷◌, ◌++◌, length, flat_map, All, decimal}
use Rattle.std.specs.List.{list_all}
use Rattle.p9_first.specs.Trees.{SyntaxRow}
use Rattle.p9_first.specs.Tokens.{Token, Word, Number, Character, Text, Mark, End, file_tokens}
use Rattle.p9_first.specs.Form.{is_letter, is_letter_or_digit, is_text_byte, IsFile}

abbrev pub is_blank : ℕ → Bool
is_blank b = b == 32 || (b == 9 || b == 10)

abbrev pub AreBlanks : List ℕ → Type 0
AreBlanks bytes = All (λ b. IsTrue (is_blank b)) bytes

-- a letter, and letters and digits behind it
abbrev pub is_word : List ℕ → Bool
is_word [] = false
is_word (b ∷ bs) = is_letter b && list_all is_letter_or_digit bs

-- a character of a text: a newline as a backslash and an n, any other as itself
abbrev pub text_spelling : ℕ → List ℕ
text_spelling b = if b == 10 then 92 ∷ 110 ∷ [] else b ∷ []

-- the bytes are the token; a number is decimal and has no zero in front
abbrev pub IsSpelling : Token → List ℕ → Type 0
IsSpelling (Word name) bytes = IsTrue (is_word name) × (bytes ≡ name)
IsSpelling (Number value false false) bytes = bytes ≡ decimal value
IsSpelling (Number value unsigned long) bytes = ⊥
IsSpelling (Character value) bytes = ⊥
IsSpelling (Text text) bytes = IsTrue (list_all is_text_byte text) × (bytes ≡ 34 ∷ (flat_map text_spelling text ++ 34 ∷ []))
IsSpelling (Mark characters) bytes = bytes ≡ characters
IsSpelling End bytes = bytes ≡ []

abbrev pub begins_with_letter_or_digit : List ℕ → Bool
begins_with_letter_or_digit [] = false
begins_with_letter_or_digit (b ∷ bs) = is_letter_or_digit b

-- a word or a number goes as far as letters and digits do
abbrev pub EndsBefore : Token → List ℕ → Type 0
EndsBefore (Word name) rest = begins_with_letter_or_digit rest ≡ false
EndsBefore (Number value unsigned long) rest = begins_with_letter_or_digit rest ≡ false
EndsBefore _ rest = Unit {0}

-- the bytes are these tokens in order
abbrev pub Spells : List Token → List ℕ → Type 0
Spells [] bytes = bytes ≡ []
Spells (token ∷ tokens) bytes =
    (before own rest : List ℕ)
    × AreBlanks before × (bytes ≡ before ++ (own ++ rest))
    × IsSpelling token own × EndsBefore token rest × Spells tokens rest

-- a file has at most so many bytes
abbrev pub file_limit : ℕ
file_limit = 65536

-- the bytes are a file of the form, with these items
pub record HasForm (bytes : List ℕ) (items : SyntaxRow) : Type 0 where
  pub short : length bytes ≤ file_limit
  pub file : IsFile items
  pub spelled : Spells (file_tokens items) bytes

abbrev pub HasNoForm : List ℕ → Type 0
HasNoForm bytes = (items : SyntaxRow) → HasForm bytes items → ⊥
