-- The classes of bytes.
use Rattle.std.specs.Prelude.{ℕ, ◌-◌, Bool, ◌||◌, ◌&&◌, ◌==◌, nat_le, nat_lt, if◌then◌else◌}

abbrev pub is_newline : ℕ → Bool
is_newline b = b == 10

-- space, tab, carriage return, form feed
abbrev pub is_blank : ℕ → Bool
is_blank b = b == 32 || b == 9 || b == 13 || b == 12

abbrev pub is_digit : ℕ → Bool
is_digit b = nat_le 48 b && nat_le b 57

abbrev pub is_upper : ℕ → Bool
is_upper b = nat_le 65 b && nat_le b 90

abbrev pub is_lower : ℕ → Bool
is_lower b = nat_le 97 b && nat_le b 122

-- a letter or `_`
abbrev pub is_name_start : ℕ → Bool
is_name_start b = is_lower b || is_upper b || b == 95

-- a letter, `_` or a digit
abbrev pub is_name_byte : ℕ → Bool
is_name_byte b = is_name_start b || is_digit b

-- what the byte stands for as a digit, and for any other byte 16, which is a digit of no base
abbrev pub digit_value : ℕ → ℕ
digit_value b =
    if is_digit b then b - 48
    else (if nat_le 97 b && nat_le b 102 then b - 87
    else (if nat_le 65 b && nat_le b 70 then b - 55
    else 16))

abbrev pub is_digit_of : (base b : ℕ) → Bool
is_digit_of base b = nat_lt (digit_value b) base
