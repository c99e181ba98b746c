-- The symbol entries of an executable.
use Rattle.std.specs.Prelude.{◌<◌, ℕ, zero, suc, ◌+◌, ◌%◌, ◌^◌, ◌==◌, not, List, [], ◌∷◌, ◌++◌, length, drop, slice_index, take_while, Contains}
use Rattle.std.specs.List.{flat_map}
use Rattle.p9_base.specs.Numbers.{word_at, word_bytes}
use Rattle.p9_aout.specs.declared.format.AoutSym.{AoutSym}

-- the letter with its high bit set
abbrev pub type_byte : ℕ → ℕ
type_byte letter = letter % 128 + 128

-- a value, a type byte, and the name ended by a zero byte
abbrev pub entry_bytes : AoutSym → List ℕ
entry_bytes symbol = word_bytes symbol.value ++ type_byte symbol.letter ∷ (symbol.name ++ 0 ∷ [])

-- the entries, in order
abbrev pub symbol_bytes : List AoutSym → List ℕ
symbol_bytes symbols = flat_map entry_bytes symbols

-- no byte of the name would end it
abbrev pub HasWholeName : AoutSym → Type 0
HasWholeName symbol = ¬ (Contains symbol.name 0)

-- the high bit is clear
abbrev pub HasPlainLetter : AoutSym → Type 0
HasPlainLetter symbol = symbol.letter < 128

-- the value is a word
abbrev pub HasWordValue : AoutSym → Type 0
HasWordValue symbol = symbol.value < 2 ^ 32

-- the bytes up to the first zero byte
abbrev pub name_at : List ℕ → List ℕ
name_at bytes = take_while (λ b. not (b == 0)) bytes

-- so many symbols, as a reader of entries finds them
unfoldable pub symbols_at : ℕ → List ℕ → List AoutSym
symbols_at zero bytes = []
symbols_at (suc n) bytes =
    record { value = word_at bytes 0; letter = slice_index bytes 4 % 128; name = name_at (drop 5 bytes) }
    ∷ symbols_at n (drop (length (name_at (drop 5 bytes)) + 1) (drop 5 bytes))
