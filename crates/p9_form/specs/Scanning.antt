-- The tokens of a file of the form, and how they are found in its bytes.
use Rattle.std.specs.Prelude.{◌≡◌, ◌≤◌, ℕ, ◌+◌, ◌-◌, ◌*◌, Bool, true, false, not, ◌&&◌, ◌||◌, ◌==◌, nat_le, if◌then◌else◌, IsTrue, List, [], ◌∷◌, length, map, take, Option, Some, None}
use Rattle.p9_first.specs.Tokens.{Token, Word, Number, Character, Text, Mark, End}
use Rattle.p9_first.specs.Form.{is_letter, is_letter_or_digit, is_text_byte}
use Rattle.p9_form.specs.declared.token.Token as code
use Rattle.p9_form.specs.declared.token.Token.TheVariants as variant
use Rattle.p9_form.specs.declared.scan.Found.{Found}
use Rattle.p9_form.specs.declared.scan.Quoted.{Quoted}
use Rattle.p9_form.specs.Spelling.{is_blank}

-- Tokens of the code, and tokens of a tree

abbrev pub token_seen : code.Token → Token
token_seen (variant.Word name) = Word name
token_seen (variant.Number value) = Number value false false
token_seen (variant.Text bytes) = Text bytes
token_seen (variant.Mark c) = Mark (c ∷ [])
token_seen variant.End = End

abbrev pub seen : List code.Token → List Token
seen tokens = map token_seen tokens

-- `(`, `)`, `{`, `}`, `;`, `,`, `=` or `+`
abbrev pub is_mark : ℕ → Bool
is_mark c = c == 40 || (c == 41 || (c == 123 || (c == 125 || (c == 59 || (c == 44 || (c == 61 || c == 43))))))

-- a token that stands in a file of the form before its end
abbrev pub IsFormToken : Token → Type 0
IsFormToken (Word name) = Unit {0}
IsFormToken (Number value false false) = value ≤ 2147483647
IsFormToken (Number value unsigned long) = ⊥
IsFormToken (Character value) = ⊥
IsFormToken (Text bytes) = Unit {0}
IsFormToken (Mark (c ∷ [])) = IsTrue (is_mark c)
IsFormToken (Mark characters) = ⊥
IsFormToken End = ⊥

-- tokens of the form, and then the end
abbrev pub AreFormTokens : List Token → Type 0
AreFormTokens [] = ⊥
AreFormTokens (End ∷ tokens) = tokens ≡ []
AreFormTokens (token ∷ tokens) = IsFormToken token × AreFormTokens tokens

-- how many bytes a token has at least
abbrev pub weight : Token → ℕ
weight (Word name) = length name
weight (Number value unsigned long) = 1
weight (Character value) = 1
weight (Text bytes) = length bytes + 2
weight (Mark characters) = length characters
weight End = 0

abbrev pub weights : List Token → ℕ
weights [] = 0
weights (token ∷ tokens) = weight token + weights tokens

-- Blanks, and runs of letters and digits

abbrev pub after_blanks : List ℕ → List ℕ
after_blanks [] = []
after_blanks (b ∷ s) = if is_blank b then after_blanks s else b ∷ s

-- how many letters and digits stand in front
abbrev pub run_length : List ℕ → ℕ
run_length [] = 0
run_length (b ∷ s) = if is_letter_or_digit b then run_length s + 1 else 0

-- Numbers

abbrev pub is_digit : ℕ → Bool
is_digit b = nat_le 48 b && nat_le b 57

-- the number of digits behind a number, if it is small enough all along
abbrev pub number_after : ℕ → List ℕ → Option ℕ
number_after n [] = Some n
number_after n (d ∷ ds) =
    if is_digit d && nat_le (10 * n + (d - 48)) 2147483647 then number_after (10 * n + (d - 48)) ds
    else None

-- the number of a digit and what follows it; a zero in front stands alone
abbrev pub number_of : (digit : ℕ) → List ℕ → Option ℕ
number_of digit [] = Some (digit - 48)
number_of digit (d ∷ ds) = if digit == 48 then None else number_after (digit - 48) (d ∷ ds)

-- Texts

abbrev pub is_plain : ℕ → Bool
is_plain b = is_text_byte b && not (b == 10)

abbrev pub with_byte : ℕ → Option Quoted → Option Quoted
with_byte b None = None
with_byte b (Some t) = Some (record { bytes = b ∷ t.bytes; length = t.length })

-- the text from its byte k on up to its second quotation mark; maybe a backslash stands before
abbrev pub quoted_from : (escaped : Bool) (k : ℕ) → List ℕ → Option Quoted
quoted_from escaped k [] = None
quoted_from true k (b ∷ s) = if b == 110 then with_byte 10 (quoted_from false (k + 1) s) else None
quoted_from false k (b ∷ s) =
    if b == 34 then Some (record { bytes = []; length = k + 1 })
    else (if b == 92 then quoted_from true (k + 1) s
    else (if is_plain b then with_byte b (quoted_from false (k + 1) s)
    else None))

-- Tokens

abbrev pub found : code.Token → ℕ → Option Found
found token length = Some (record { token = token; length = length })

-- a word: a letter, and letters and digits behind it
abbrev pub found_word : (first : ℕ) → List ℕ → Option Found
found_word first s = found (variant.Word (first ∷ take (run_length s) s)) (run_length s + 1)

abbrev pub found_value : Option ℕ → ℕ → Option Found
found_value None length = None
found_value (Some value) length = found (variant.Number value) length

-- a number: a digit, and letters and digits behind it, which must be digits
abbrev pub found_number : (digit : ℕ) → List ℕ → Option Found
found_number digit s = found_value (number_of digit (take (run_length s) s)) (run_length s + 1)

abbrev pub found_quoted : Option Quoted → Option Found
found_quoted None = None
found_quoted (Some t) = found (variant.Text t.bytes) t.length

-- a text, behind its first quotation mark
abbrev pub found_text : List ℕ → Option Found
found_text s = found_quoted (quoted_from false 1 s)

-- the token that begins with this byte
unfoldable pub token_at : (first : ℕ) → List ℕ → Option Found
token_at first s =
    if is_letter first then found_word first s
    else (if is_digit first then found_number first s
    else (if first == 34 then found_text s
    else (if is_mark first then found (variant.Mark first) 1
    else None)))
