-- Characters and texts. Each function is given the rest of the file from byte k of the piece on.
use Rattle.std.specs.Prelude.{ℕ, zero, suc, ◌+◌, ◌-◌, ◌*◌, ◌==◌, nat_lt, List, [], ◌∷◌, drop, Option, Some, None, Result, Ok, Err, if◌then◌else◌}
use Rattle.p9_base.specs.Numbers.{sign_extended}
use Rattle.p9_lex.specs.declared.broken.Break.{Break}
use Rattle.p9_lex.specs.declared.quoted.Item.{Item}
use Rattle.p9_lex.specs.declared.quoted.Character.{Character}
use Rattle.p9_lex.specs.declared.quoted.Text.{Text}
use Rattle.p9_lex.specs.Classes.{is_newline, digit_value, is_digit_of}
use Rattle.p9_lex.specs.Broken.{bad_byte, open_text}

-- the escapes of one letter, and of the quotes and the backslash
abbrev pub simple_escape : ℕ → Option ℕ
simple_escape b =
    if b == 110 then Some 10
    else (if b == 116 then Some 9
    else (if b == 114 then Some 13
    else (if b == 98 then Some 8
    else (if b == 102 then Some 12
    else (if b == 118 then Some 11
    else (if b == 97 then Some 7
    else (if b == 92 then Some 92
    else (if b == 39 then Some 39
    else (if b == 34 then Some 34
    else None)))))))))

-- so many bytes spell this byte
abbrev pub item : (value length : ℕ) → Result Item Break
item value length = Ok (record { value = value; length = length })

-- maybe a third octal digit, which doesn't take the value past 255
abbrev pub octal_third : (k value : ℕ) → List ℕ → Result Item Break
octal_third k value [] = item value 3
octal_third k value (b ∷ s) =
    if is_digit_of 8 b then
    (if nat_lt (8 * value + digit_value b) 256 then item (8 * value + digit_value b) 4
    else Err (bad_byte k))
    else item value 3

-- maybe a second octal digit
abbrev pub octal_second : (k value : ℕ) → List ℕ → Result Item Break
octal_second k value [] = item value 2
octal_second k value (b ∷ s) =
    if is_digit_of 8 b then octal_third (k + 1) (8 * value + digit_value b) s
    else item value 2

-- maybe a second hexadecimal digit
abbrev pub hex_second : (value : ℕ) → List ℕ → Result Item Break
hex_second value [] = item value 3
hex_second value (b ∷ s) =
    if is_digit_of 16 b then item (16 * value + digit_value b) 4
    else item value 3

-- after `\x`, one or two hexadecimal digits
abbrev pub hex_escape : (k : ℕ) → List ℕ → Result Item Break
hex_escape k [] = Err (open_text k)
hex_escape k (b ∷ s) =
    if is_newline b then Err (open_text k)
    else (if is_digit_of 16 b then hex_second (digit_value b) s
    else Err (bad_byte k))

-- an escape that is no simple one
abbrev pub coded_escape : (k b : ℕ) → List ℕ → Result Item Break
coded_escape k b s =
    if is_digit_of 8 b then octal_second (k + 1) (digit_value b) s
    else (if b == 120 then hex_escape (k + 1) s
    else Err (bad_byte k))

abbrev pub escape_as : (k b : ℕ) → List ℕ → Option ℕ → Result Item Break
escape_as k b s (Some value) = item value 2
escape_as k b s None = coded_escape k b s

-- after a backslash
abbrev pub escape : (k : ℕ) → List ℕ → Result Item Break
escape k [] = Err (open_text k)
escape k (b ∷ s) =
    if is_newline b then Err (open_text k)
    else escape_as k b s (simple_escape b)

-- one byte or escape between quotes
abbrev pub quoted : (k b : ℕ) → List ℕ → Result Item Break
quoted k b s =
    if is_newline b then Err (open_text k)
    else (if b == 0 then Err (bad_byte k)
    else (if b == 92 then escape (k + 1) s
    else item b 1))

-- the second `'`, at byte k
abbrev pub character_end : (k value : ℕ) → List ℕ → Result Character Break
character_end k value [] = Err (open_text k)
character_end k value (b ∷ s) =
    if b == 39 then Ok (record { value = sign_extended 8 value; length = k + 1 })
    else (if is_newline b then Err (open_text k)
    else Err (bad_byte k))

-- what follows where the one before is well
abbrev pub then_read : {A B : Type 0} → Result A Break → (A → Result B Break) → Result B Break
then_read (Ok x) next = next x
then_read (Err e) next = Err e

-- a character from the byte after its first `'` on: something stands between its quotes
unfoldable pub character : List ℕ → Result Character Break
character [] = Err (open_text 1)
character (b ∷ s) =
    if b == 39 then Err (bad_byte 1)
    else then_read (quoted 1 b s) (λ i. character_end (1 + i.length) i.value (drop i.length (b ∷ s)))

-- one more byte at the front of a text
abbrev pub with_byte : ℕ → Result Text Break → Result Text Break
with_byte value (Ok t) = Ok (record { bytes = value ∷ t.bytes; length = t.length })
with_byte value (Err e) = Err e

-- a text from its byte k on, to the next `"`; the next `inside` bytes belong to an escape that is
-- read already
abbrev pub text : (inside k : ℕ) → List ℕ → Result Text Break
text inside k [] = Err (open_text k)
text (suc j) k (b ∷ s) = text j (k + 1) s
text zero k (b ∷ s) =
    if b == 34 then Ok (record { bytes = []; length = k + 1 })
    else then_read (quoted k b s) (λ i. with_byte i.value (text (i.length - 1) (k + 1) s))
