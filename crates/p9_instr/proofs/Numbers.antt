-- The numbers of one, two and four bytes.
use Rattle.std.proofs.Common.{◌≡◌, ℕ, ◌+◌, ◌*◌, List, [], ◌∷◌, length, get_or, arith}
use Rattle.p9_base.specs.Numbers.{word_at}
use Rattle.p9_object.specs.Bytes.{number_of}

pub one_byte : (bytes : List ℕ) → length bytes ≡ 1 → get_or bytes 0 0 ≡ number_of bytes
one_byte [] h = absurd (omega (arith, h))
one_byte (a ∷ []) h = omega arith
one_byte (a ∷ b ∷ rest) h = absurd (omega (arith, h))

pub two_bytes : (bytes : List ℕ) → length bytes ≡ 2 → get_or bytes 0 0 * 256 + get_or bytes 1 0 ≡ number_of bytes
two_bytes [] h = absurd (omega (arith, h))
two_bytes (a ∷ []) h = absurd (omega (arith, h))
two_bytes (a ∷ b ∷ []) h = omega arith
two_bytes (a ∷ b ∷ c ∷ rest) h = absurd (omega (arith, h))

pub four_bytes : (bytes : List ℕ) → length bytes ≡ 4 → word_at bytes 0 ≡ number_of bytes
four_bytes [] h = absurd (omega (arith, h))
four_bytes (a ∷ []) h = absurd (omega (arith, h))
four_bytes (a ∷ b ∷ []) h = absurd (omega (arith, h))
four_bytes (a ∷ b ∷ c ∷ []) h = absurd (omega (arith, h))
four_bytes (a ∷ b ∷ c ∷ d ∷ []) h = omega arith
four_bytes (a ∷ b ∷ c ∷ d ∷ e ∷ rest) h = absurd (omega (arith, h))
