-- Numbers. Each function is given the rest of the file from byte k of the number on, with the value
-- of the digits before it.
use Rattle.std.specs.Prelude.{ℕ, ◌+◌, ◌-◌, ◌*◌, ◌^◌, Bool, true, false, ◌==◌, ◌||◌, nat_lt, List, [], ◌∷◌, Result, Ok, Err, if◌then◌else◌}
use Rattle.p9_lex.specs.declared.broken.Break.{Break}
use Rattle.p9_lex.specs.declared.number.Numeral.{Numeral}
use Rattle.p9_lex.specs.Classes.{is_name_byte, digit_value, is_digit_of}
use Rattle.p9_lex.specs.Broken.{bad_byte, wide_number}

abbrev pub is_unsigned_mark : ℕ → Bool
is_unsigned_mark b = b == 117 || b == 85

abbrev pub is_long_mark : ℕ → Bool
is_long_mark b = b == 108 || b == 76

-- neither a letter, digit, `_` nor `.` stands directly after a number
abbrev pub number_end : (value k : ℕ) (unsigned long : Bool) → List ℕ → Result Numeral Break
number_end value k unsigned long [] = Ok (record { value = value; unsigned = unsigned; long = long; length = k })
number_end value k unsigned long (b ∷ s) =
    if is_name_byte b || b == 46 then Err (bad_byte k)
    else Ok (record { value = value; unsigned = unsigned; long = long; length = k })

-- after a `u`, maybe an `l`
abbrev pub after_unsigned : (value k : ℕ) → List ℕ → Result Numeral Break
after_unsigned value k [] = number_end value k true false []
after_unsigned value k (b ∷ s) =
    if is_long_mark b then number_end value (k + 1) true true s
    else number_end value k true false (b ∷ s)

-- after an `l`, maybe a `u`
abbrev pub after_long : (value k : ℕ) → List ℕ → Result Numeral Break
after_long value k [] = number_end value k false true []
after_long value k (b ∷ s) =
    if is_unsigned_mark b then number_end value (k + 1) true true s
    else number_end value k false true (b ∷ s)

-- after the digits, at most one `u` or `U` and at most one `l` or `L`, in either order
abbrev pub after_digits : (value k : ℕ) → List ℕ → Result Numeral Break
after_digits value k [] = number_end value k false false []
after_digits value k (b ∷ s) =
    if is_unsigned_mark b then after_unsigned value (k + 1) s
    else (if is_long_mark b then after_long value (k + 1) s
    else number_end value k false false (b ∷ s))

-- the digits of a base; the one that takes the value past 2^32 - 1 makes the number too wide
abbrev pub digits : (base value k : ℕ) → List ℕ → Result Numeral Break
digits base value k [] = after_digits value k []
digits base value k (b ∷ s) =
    if is_digit_of base b then
    (if nat_lt (base * value + digit_value b) (2 ^ 32) then digits base (base * value + digit_value b) (k + 1) s
    else Err (wide_number k))
    else after_digits value k (b ∷ s)

-- after `0x`, at least one digit: the `x` alone would stand directly after the number 0
abbrev pub hexadecimal : List ℕ → Result Numeral Break
hexadecimal [] = Err (bad_byte 1)
hexadecimal (b ∷ s) =
    if is_digit_of 16 b then digits 16 0 2 (b ∷ s)
    else Err (bad_byte 1)

-- after a `0`: hexadecimal behind an `x` or `X`, and else octal
abbrev pub after_zero : List ℕ → Result Numeral Break
after_zero [] = digits 8 0 1 []
after_zero (b ∷ s) =
    if b == 120 || b == 88 then hexadecimal s
    else digits 8 0 1 (b ∷ s)

-- a number by its first digit and the rest of the file after it
abbrev pub number : (digit : ℕ) → List ℕ → Result Numeral Break
number digit s =
    if digit == 48 then after_zero s
    else digits 10 (digit - 48) 1 s
