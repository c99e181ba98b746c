-- Fields, signs and bytes of words.
use Rattle.std.specs.Prelude.{ℕ, ◌+◌, ◌-◌, ◌*◌, ◌/◌, ◌%◌, ◌^◌, List, [], ◌∷◌, slice_index, if◌then◌else◌, nat_lt}

-- `count` bits from bit `low`
abbrev pub field_of : (w low count : ℕ) → ℕ
field_of w low count = w / 2 ^ low % 2 ^ count

-- the low `bits` bits of w, whose highest is the sign, as a word
abbrev pub sign_extended : ℕ → ℕ → ℕ
sign_extended bits w =
    if nat_lt (w % 2 ^ bits) (2 ^ (bits - 1)) then w % 2 ^ bits else w % 2 ^ bits + (2 ^ 32 - 2 ^ bits)

-- the word at a place, its highest byte first
abbrev pub word_at : List ℕ → ℕ → ℕ
word_at bytes at =
    slice_index bytes at * 2 ^ 24 + slice_index bytes (at + 1) * 2 ^ 16
    + slice_index bytes (at + 2) * 2 ^ 8 + slice_index bytes (at + 3)

-- the four bytes of a word, the highest first
abbrev pub word_bytes : ℕ → List ℕ
word_bytes w = w / 2 ^ 24 % 2 ^ 8 ∷ w / 2 ^ 16 % 2 ^ 8 ∷ w / 2 ^ 8 % 2 ^ 8 ∷ w % 2 ^ 8 ∷ []
