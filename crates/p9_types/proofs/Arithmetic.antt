-- Sizes that are cut off above the limit: arithmetic on them goes as on those that aren't.
use Rattle.std.proofs.Common.{◌≡◌, ◌≤◌, ◌<◌, ◌⊎◌, inl, inr, ℕ, zero, suc, ◌+◌, ◌*◌, max, ap, sym, ◌∙◌, arith}
use Rattle.std.proofs.lemmas.Bool.{cases_lt}
use Rattle.p9_lang.specs.Layout.{rounded}
use Rattle.p9_lang.proofs.Placing.{rounds_up}
use Rattle.p9_types.specs.Capping.{capped}

pub capped_again : (n : ℕ) → capped (capped n) ≡ capped n
capped_again n = omega arith

pub capped_sum : (m n : ℕ) → capped (capped m + capped n) ≡ capped (m + n)
capped_sum m n = omega arith

pub capped_max : (m n : ℕ) → capped (max (capped m) (capped n)) ≡ capped (max m n)
capped_max m n = omega arith

pub capped_product : (m n : ℕ) → capped (capped m * n) ≡ capped (m * n)
capped_product m zero = omega arith
capped_product m (suc n) = by (cases_lt 16777217 m)
  where
    large : 16777217 < m → capped (16777217 * suc n) ≡ capped (m * suc n)
    large lt = omega arith

    by : (16777217 < m) ⊎ (m ≤ 16777217) → capped (capped m * suc n) ≡ capped (m * suc n)
    by (inl lt) = let e : capped m ≡ 16777217 = omega arith in ap (λ k. capped (k * suc n)) e ∙ large lt
    by (inr le) = let e : capped m ≡ m = omega arith in ap (λ k. capped (k * suc n)) e

pub alike_sum : (a b c d : ℕ) → capped a ≡ capped b → capped c ≡ capped d → capped (a + c) ≡ capped (b + d)
alike_sum a b c d e f = omega arith

pub alike_max : (a b c d : ℕ) → capped a ≡ capped b → capped c ≡ capped d → capped (max a c) ≡ capped (max b d)
alike_max a b c d e f = omega arith

turned : (m n : ℕ) → m * n ≡ n * m
turned m n = omega arith

pub alike_product : (a b c d : ℕ) → capped a ≡ capped b → capped c ≡ capped d → capped (a * c) ≡ capped (b * d)
alike_product a b c d e f =
    sym (capped_product a c) ∙ ap (λ k. capped (k * c)) e ∙ capped_product b c
    ∙ ap capped (turned b c) ∙ sym (capped_product c b) ∙ ap (λ k. capped (k * b)) f ∙ capped_product d b ∙ ap capped (turned d b)

-- the next multiple of a number that is cut off
capped_rounded : (n a : ℕ) → 1 ≤ a → capped (rounded (capped n) a) ≡ capped (rounded n a)
capped_rounded n a le = by (cases_lt 16777217 n)
  where
    both : (x y : ℕ) → 16777217 ≤ x → n ≤ y → 16777217 < n → capped x ≡ capped y
    both x y p q r = omega arith

    by : (16777217 < n) ⊎ (n ≤ 16777217) → capped (rounded (capped n) a) ≡ capped (rounded n a)
    by (inl lt) =
        let e : capped n ≡ 16777217 = omega arith in
        ap (λ k. capped (rounded k a)) e ∙ both (rounded 16777217 a) (rounded n a) (rounds_up 16777217 a le) (rounds_up n a le) lt
    by (inr le) = let e : capped n ≡ n = omega arith in ap (λ k. capped (rounded k a)) e

pub alike_rounded : (a b k : ℕ) → capped a ≡ capped b → capped (rounded a k) ≡ capped (rounded b k)
alike_rounded a b zero e = omega arith
alike_rounded a b (suc k) e =
    sym (capped_rounded a (suc k) (omega arith)) ∙ ap (λ n. capped (rounded n (suc k))) e ∙ capped_rounded b (suc k) (omega arith)
