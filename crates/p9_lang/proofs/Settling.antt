-- A test that fails of more and more of finitely many things, and once it fails of no more stays as
-- it is: it is settled after as many steps as there are things.
use Rattle.std.proofs.Common.{◌<◌, ◌≡◌, ◌≤◌, ◌⊎◌, inl, inr, ℕ, zero, suc, Bool, true, false, cond, nat_le, List, [], ◌∷◌, length, refl, sym, subst, ap, ◌∙◌, arith}

abbrev pub Among : {X : Type 0} → List X → X → Type 0
Among [] x = ⊥
Among (y ∷ ys) x = (x ≡ y) ⊎ Among ys x

-- what a later test holds of an earlier one does too
abbrev pub Falls : {X : Type 0} → (ℕ → X → Bool) → Type 0
Falls {X} P = (k : ℕ) (x : X) → P (suc k) x ≡ true → P k x ≡ true

abbrev pub StaysAt : {X : Type 0} → (ℕ → X → Bool) → List X → ℕ → Type 0
StaysAt {X} P xs k = (x : X) → Among xs x → P k x ≡ true → P (suc k) x ≡ true

abbrev failing : {X : Type 0} → (X → Bool) → List X → ℕ
failing p [] = 0
failing p (x ∷ xs) = cond (p x) (failing p xs) (suc (failing p xs))

true_not_false : {A : Type 0} (b : Bool) → b ≡ true → b ≡ false → A
true_not_false b e k = cc

fails_no_less : {X : Type 0} (p q : X → Bool) → ((x : X) → q x ≡ true → p x ≡ true) → (xs : List X) → failing p xs ≤ failing q xs
fails_no_less p q h [] = omega arith
fails_no_less {X} p q h (x ∷ xs) = by (p x) (q x) refl refl (fails_no_less p q h xs)
  where
    by : (a b : Bool) → p x ≡ a → q x ≡ b → failing p xs ≤ failing q xs
        → cond a (failing p xs) (suc (failing p xs)) ≤ cond b (failing q xs) (suc (failing q xs))
    by true true e k r = r
    by true false e k r = omega arith
    by false true e k r = true_not_false (p x) (h x k) e
    by false false e k r = omega arith

fails_more : {X : Type 0} (p q : X → Bool) → ((x : X) → q x ≡ true → p x ≡ true) → (xs : List X)
    → ((x : X) → Among xs x → p x ≡ true → q x ≡ true) ⊎ (failing p xs < failing q xs)
fails_more p q h [] = inl (λ x a e. absurd a)
fails_more {X} p q h (x ∷ xs) = by (p x) (q x) refl refl (fails_more p q h xs)
  where
    same : (a b : Bool) → p x ≡ a → q x ≡ b → (a ≡ true → b ≡ true) → ((y : X) → Among xs y → p y ≡ true → q y ≡ true)
        → (y : X) → Among (x ∷ xs) y → p y ≡ true → q y ≡ true
    same a b e k r s y (inl z) f = ap q z ∙ k ∙ r (sym e ∙ ap p (sym z) ∙ f)
    same a b e k r s y (inr z) f = s y z f

    by : (a b : Bool) → p x ≡ a → q x ≡ b → ((y : X) → Among xs y → p y ≡ true → q y ≡ true) ⊎ (failing p xs < failing q xs)
        → ((y : X) → Among (x ∷ xs) y → p y ≡ true → q y ≡ true)
        ⊎ (cond a (failing p xs) (suc (failing p xs)) < cond b (failing q xs) (suc (failing q xs)))
    by true true e k (inl s) = inl (same true true e k (λ z. z) s)
    by true true e k (inr s) = inr s
    by true false e k s = let r = fails_no_less p q h xs in inr (omega arith)
    by false true e k s = true_not_false (p x) (h x k) e
    by false false e k (inl s) = inl (same false false e k (λ z. z) s)
    by false false e k (inr s) = inr (omega arith)

fails_at_most : {X : Type 0} (p : X → Bool) (xs : List X) → failing p xs ≤ length xs
fails_at_most p [] = omega arith
fails_at_most p (x ∷ xs) = by (p x) (fails_at_most p xs)
  where
    by : (b : Bool) → failing p xs ≤ length xs → cond b (failing p xs) (suc (failing p xs)) ≤ suc (length xs)
    by true r = omega arith
    by false r = omega arith

all_fail : {X : Type 0} (p : X → Bool) (xs : List X) → length xs ≤ failing p xs → (x : X) → Among xs x → p x ≡ false
all_fail p [] le x a = absurd a
all_fail {X} p (y ∷ xs) le x a = by (p y) refl le a (λ r. all_fail p xs r x)
  where
    by : (b : Bool) → p y ≡ b → suc (length xs) ≤ cond b (failing p xs) (suc (failing p xs)) → (x ≡ y) ⊎ Among xs x
        → (length xs ≤ failing p xs → Among xs x → p x ≡ false) → p x ≡ false
    by true e le a others = let r = fails_at_most p xs in absurd (omega arith)
    by false e le (inl z) others = ap p z ∙ e
    by false e le (inr z) others = others (omega arith) z

-- one of the first steps changes nothing, or it fails of one thing more at each

stays_or_fails : {X : Type 0} (P : ℕ → X → Bool) → Falls P → (xs : List X) (k : ℕ)
    → ((j : ℕ) × (j ≤ k) × StaysAt P xs j) ⊎ (k ≤ failing (P k) xs)
stays_or_fails P falls xs zero = inr (omega arith)
stays_or_fails {X} P falls xs (suc k) = by (stays_or_fails P falls xs k) (fails_more (P k) (P (suc k)) (falls k) xs)
  where
    by : ((j : ℕ) × (j ≤ k) × StaysAt P xs j) ⊎ (k ≤ failing (P k) xs)
        → ((x : X) → Among xs x → P k x ≡ true → P (suc k) x ≡ true) ⊎ (failing (P k) xs < failing (P (suc k)) xs)
        → ((j : ℕ) × (j ≤ suc k) × StaysAt P xs j) ⊎ (suc k ≤ failing (P (suc k)) xs)
    by (inl r) s = let le = r.1 in inl (r.0, omega arith, r.2)
    by (inr r) (inl s) = inl (k, omega arith, s)
    by (inr r) (inr s) = inr (omega arith)

split_last : (j n : ℕ) → j ≤ suc n → (j ≤ n) ⊎ (j ≡ suc n)
split_last j n le = by (nat_le j n) refl
  where
    by : (b : Bool) → nat_le j n ≡ b → (j ≤ n) ⊎ (j ≡ suc n)
    by true e = inl (grind (arith, e))
    by false e = let r : suc n ≤ j = grind (arith, e) in inr (omega arith)

falls_to : {X : Type 0} (P : ℕ → X → Bool) → Falls P → (n j : ℕ) → j ≤ n → (x : X) → P n x ≡ true → P j x ≡ true
falls_to P falls zero j le x e = let z : j ≡ 0 = omega arith in ap (λ i. P i x) z ∙ e
falls_to {X} P falls (suc n) j le x e = by (split_last j n le) (λ r. falls_to P falls n j r x (falls n x e))
  where
    by : (j ≤ n) ⊎ (j ≡ suc n) → (j ≤ n → P j x ≡ true) → P j x ≡ true
    by (inl r) before = before r
    by (inr r) before = ap (λ i. P i x) r ∙ e

stays_from : {X : Type 0} (P : ℕ → X → Bool) (xs : List X) → ((k : ℕ) → StaysAt P xs k → StaysAt P xs (suc k)) → (j : ℕ)
    → StaysAt P xs j → (n : ℕ) → j ≤ n → StaysAt P xs n
stays_from P xs on j s zero le = let z : j ≡ 0 = omega arith in subst (λ i. StaysAt P xs i) z s
stays_from {X} P xs on j s (suc n) le = by (split_last j n le) (λ r. on n (stays_from P xs on j s n r))
  where
    by : (j ≤ n) ⊎ (j ≡ suc n) → (j ≤ n → StaysAt P xs (suc n)) → StaysAt P xs (suc n)
    by (inl r) next = next r
    by (inr r) next = subst (λ i. StaysAt P xs i) r s

holds_from : {X : Type 0} (P : ℕ → X → Bool) (xs : List X) → ((k : ℕ) → StaysAt P xs k → StaysAt P xs (suc k)) → (j : ℕ)
    → StaysAt P xs j → (n : ℕ) → j ≤ n → (x : X) → Among xs x → P j x ≡ true → P n x ≡ true
holds_from P xs on j s zero le x a e = let z : 0 ≡ j = omega arith in ap (λ i. P i x) z ∙ e
holds_from {X} P xs on j s (suc n) le x a e =
    by (split_last j n le) (λ r. stays_from P xs on j s n r x a (holds_from P xs on j s n r x a e))
  where
    by : (j ≤ n) ⊎ (j ≡ suc n) → (j ≤ n → P (suc n) x ≡ true) → P (suc n) x ≡ true
    by (inl r) next = next r
    by (inr r) next = ap (λ i. P i x) (sym r) ∙ e

pub settled : {X : Type 0} (P : ℕ → X → Bool) (xs : List X) → Falls P → ((k : ℕ) → StaysAt P xs k → StaysAt P xs (suc k))
    → (n : ℕ) → length xs ≤ n → (x : X) → Among xs x → P (length xs) x ≡ true → P n x ≡ true
settled {X} P xs falls on n le x a e = by (stays_or_fails P falls xs (length xs))
  where
    by : ((j : ℕ) × (j ≤ length xs) × StaysAt P xs j) ⊎ (length xs ≤ failing (P (length xs)) xs) → P n x ≡ true
    by (inl r) =
        let low = r.1 in
        holds_from P xs on r.0 r.2 n (omega arith) x a (falls_to P falls (length xs) r.0 r.1 x e)
    by (inr r) = true_not_false (P (length xs) x) e (all_fail (P (length xs)) xs r x a)
