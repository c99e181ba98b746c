-- A word of ones, shifted right.
use Rattle.std.proofs.Common.{◌≡◌, ◌<◌, ◌≤◌, ℕ, ◌+◌, ◌-◌, ◌*◌, ◌/◌, ◌^◌, arith, sym, ◌∙◌, ap, subst, mul_comm}
use Rattle.std.proofs.lemmas.Nat.{div-mul-add, pow-add, pow_pos}
use Rattle.std.proofs.Math.Nat.{div-lt_iff_lt-mul}

-- the ones of a whole power, as a multiple and a remainder
pub ones_split : (m n : ℕ) → (m + 1) * (n + 1) ≡ 4294967296 → 4294967295 ≡ n * (m + 1) + m
ones_split m n e = omega (arith, e)

pub powers_split : (k : ℕ) → k < 32 → 2 ^ k * 2 ^ (32 - k) ≡ 4294967296
powers_split k h =
    sym (pow-add 2 k (32 - k)) ∙ ap (λ j. 2 ^ j) (let e : k + (32 - k) ≡ 32 = omega (arith, h) in e)

pub ones_over : (m n : ℕ) → (m + 1) * (n + 1) ≡ 4294967296 → 4294967295 / (m + 1) ≡ n
ones_over m n e =
    let below : m < m + 1 = omega arith in
    ap (λ x. x / (m + 1)) (ones_split m n e) ∙ div-mul-add n (m + 1) m below

pub ones_over_power : (p q : ℕ) → 0 < p → 0 < q → p * q ≡ 4294967296 → 4294967295 / p ≡ q - 1
ones_over_power p q hp hq e =
    let ep : p - 1 + 1 ≡ p = omega (arith, hp) in
    let eq : q - 1 + 1 ≡ q = omega (arith, hq) in
    let whole : (p - 1 + 1) * (q - 1 + 1) ≡ 4294967296 = ap (λ x. x * (q - 1 + 1)) ep ∙ ap (λ y. p * y) eq ∙ e in
    ap (λ x. 4294967295 / x) (sym ep) ∙ ones_over (p - 1) (q - 1) whole

pub ones_shifted : (k : ℕ) → k < 32 → 4294967295 / 2 ^ k ≡ 2 ^ (32 - k) - 1
ones_shifted k h = ones_over_power (2 ^ k) (2 ^ (32 - k)) (pow_pos k) (pow_pos (32 - k)) (powers_split k h)

pub shifted_below : (a k : ℕ) → a < 2 ^ 32 → k < 32 → a / 2 ^ k < 2 ^ (32 - k)
shifted_below a k w h =
    let whole : 2 ^ (32 - k) * 2 ^ k ≡ 4294967296 = mul_comm (2 ^ (32 - k)) (2 ^ k) ∙ powers_split k h in
    let P : ℕ → Type 0 = λ x. a < x in
    (div-lt_iff_lt-mul (pow_pos k)).1 (subst P (sym whole) w)
