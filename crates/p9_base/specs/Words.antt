-- Words of 32 bits: numbers below 2^32, and the operations that C's meaning and the machine share.
use Rattle.std.specs.Prelude.{ℕ, ◌+◌, ◌-◌, ◌*◌, ◌/◌, ◌%◌, ◌^◌, ◌<◌, Bool, true, false, not, nat_lt, nat_le, if◌then◌else◌, bit_or, ℤ, pos, neg_ℤ}

abbrev pub IsWord : ℕ → Type 0
IsWord w = w < 2 ^ 32

-- Sums and products, modulo 2^32

abbrev pub word_sum : ℕ → ℕ → ℕ
word_sum a b = (a + b) % 2 ^ 32

abbrev pub word_difference : ℕ → ℕ → ℕ
word_difference a b = (a + (2 ^ 32 - b)) % 2 ^ 32

abbrev pub word_negation : ℕ → ℕ
word_negation a = (2 ^ 32 - a) % 2 ^ 32

abbrev pub word_product : ℕ → ℕ → ℕ
word_product a b = (a * b) % 2 ^ 32

-- Signs: from 2^31 on a word stands for itself less 2^32

abbrev pub is_negative : ℕ → Bool
is_negative a = nat_le (2 ^ 31) a

abbrev pub signed_value : ℕ → ℤ
signed_value a = if is_negative a then neg_ℤ (pos (2 ^ 32 - a)) else pos a

abbrev pub magnitude : ℕ → ℕ
magnitude a = if is_negative a then 2 ^ 32 - a else a

-- a word of one sign compares as it stands, and a negative one is below one that isn't
abbrev pub is_signed_less : ℕ → ℕ → Bool
is_signed_less a b =
    if is_negative a then (if is_negative b then nat_lt a b else true)
    else (if is_negative b then false else nat_lt a b)

-- Division of signed words, which truncates: the remainder has the dividend's sign

abbrev pub with_sign : Bool → ℕ → ℕ
with_sign negative size = if negative then word_negation size else size

abbrev pub signs_differ : ℕ → ℕ → Bool
signs_differ a b = if is_negative a then not (is_negative b) else is_negative b

abbrev pub signed_quotient : ℕ → ℕ → ℕ
signed_quotient a b = with_sign (signs_differ a b) (magnitude a / magnitude b)

abbrev pub signed_remainder : ℕ → ℕ → ℕ
signed_remainder a b = with_sign (is_negative a) (magnitude a % magnitude b)

-- Products of 64 bits: of words as they stand, and of signed words

abbrev pub unsigned_product : ℕ → ℕ → ℕ
unsigned_product a b = a * b

-- the word with its sign in 64 bits
abbrev pub wide : ℕ → ℕ
wide a = if is_negative a then a + (2 ^ 64 - 2 ^ 32) else a

abbrev pub signed_product : ℕ → ℕ → ℕ
signed_product a b = (wide a * wide b) % 2 ^ 64

-- Shifts by k below 32

abbrev pub shift_left : ℕ → ℕ → ℕ
shift_left a k = (a * 2 ^ k) % 2 ^ 32

abbrev pub shift_right : ℕ → ℕ → ℕ
shift_right a k = a / 2 ^ k

-- the sign comes in from the left
abbrev pub shift_right_signed : ℕ → ℕ → ℕ
shift_right_signed a k = if is_negative a then a / 2 ^ k + (2 ^ 32 - 2 ^ (32 - k)) else a / 2 ^ k

-- Parts

abbrev pub low8 : ℕ → ℕ
low8 a = a % 2 ^ 8

abbrev pub low16 : ℕ → ℕ
low16 a = a % 2 ^ 16

-- Bits: `bit_and`, `bit_or` and `bit_xor` of the library, and these

abbrev pub word_complement : ℕ → ℕ
word_complement a = 2 ^ 32 - 1 - a

abbrev pub word_nor : ℕ → ℕ → ℕ
word_nor a b = word_complement (bit_or a b)
