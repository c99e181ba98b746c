-- An instruction can be reached exactly where a way leads to it: the set of the reached grows with each
-- step until it stands still, at the latest when it has all instructions.
use Rattle.std.proofs.Common.{◌≡◌, ◌≤◌, ◌<◌, ◌⊎◌, inl, inr, ℕ, zero, suc, ◌+◌, ◌&&◌, ◌||◌, ◌==◌, nat_lt, Bool, true, false, List, [], ◌∷◌, ◌++◌, length, refl, sym, ap, ◌∙◌, subst, arith}
use Rattle.std.proofs.lemmas.Bool.{and_parts, and_from, or_left, or_right, or_cases, ltb-true, lt-ltb, eqb-true, true≢false}
use Rattle.std.proofs.lemmas.Bool.Decides.{nat_tests}
use Rattle.p9_abs.specs.declared.instructions.Abs.{Abs}
use Rattle.p9_abs.specs.Automatics.{flows, flows_from, reached_in, reached, Along}
use Rattle.p9_abs.specs.Laws.{ReachedByWays}

-- Counting

number : Bool → ℕ
number true = 1
number false = 0

-- how many below m pass the test
count : (ℕ → Bool) → ℕ → ℕ
count p zero = 0
count p (suc m) = number (p m) + count p m

number-small : (b : Bool) → number b ≤ 1
unfolding number
number-small true = omega arith
number-small false = omega arith

count-small : (p : ℕ → Bool) (m : ℕ) → count p m ≤ m
unfolding count
count-small p zero = omega arith
count-small p (suc m) = let h = count-small p m in let g = number-small (p m) in omega arith

abbrev Within : (p q : ℕ → Bool) → ℕ → Type 0
Within p q m = (k : ℕ) → k < m → p k ≡ true → q k ≡ true

within-top : (p q : ℕ → Bool) (m : ℕ) → (p m ≡ true → q m ≡ true) → Within p q m → Within p q (suc m)
within-top p q m top below k h = at (cases k m h)
  where
    cases : (a b : ℕ) → a < suc b → (a < b) ⊎ (a ≡ b)
    cases a b l = grind (arith)

    at : (k < m) ⊎ (k ≡ m) → p k ≡ true → q k ≡ true
    at (inl l) e = below k l e
    at (inr r) e = subst (λ i. q i ≡ true) (sym r) (top (subst (λ i. p i ≡ true) r e))

number-grows : (a b : Bool) → (a ≡ true → b ≡ true) → number a ≤ number b
unfolding number
number-grows true true h = omega arith
number-grows true false h = absurd (true≢false (sym (h refl)))
number-grows false true h = omega arith
number-grows false false h = omega arith

count-grows : (p q : ℕ → Bool) (m : ℕ) → ((k : ℕ) → p k ≡ true → q k ≡ true) → count p m ≤ count q m
unfolding count
count-grows p q zero grows = omega arith
count-grows p q (suc m) grows =
    let h = count-grows p q m grows in
    let g = number-grows (p m) (q m) (grows m) in
    omega arith

-- a larger set is the same below m, or has more below m
same-or-more : (p q : ℕ → Bool) (m : ℕ) → ((k : ℕ) → p k ≡ true → q k ≡ true) → Within q p m ⊎ (count p m < count q m)
unfolding number count
same-or-more p q zero grows = inl (λ k h e. absurd (omega arith))
same-or-more p q (suc m) grows = at (p m) (q m) refl refl (same-or-more p q m grows)
  where
    least : count p m ≤ count q m
    least = count-grows p q m grows

    top : number (p m) ≤ number (q m)
    top = number-grows (p m) (q m) (grows m)

    at : (a b : Bool) → p m ≡ a → q m ≡ b → Within q p m ⊎ (count p m < count q m) → Within q p (suc m) ⊎ (number (p m) + count p m < number (q m) + count q m)
    at a b e f (inr more) = let g = top in inr (omega arith)
    at true b e f (inl same) = inl (within-top q p m (λ x. e) same)
    at false false e f (inl same) = inl (within-top q p m (λ x. absurd (true≢false (sym x ∙ f))) same)
    at false true e f (inl same) =
        let x : number (p m) ≡ 0 = ap number e in
        let y : number (q m) ≡ 1 = ap number f in
        let z = least in
        inr (omega arith)

-- Flow from a set

flows-from : (code : List Abs) (p : ℕ → Bool) (m i j : ℕ) → i < m → p i ≡ true → flows code i j ≡ true → flows_from code p m j ≡ true
flows-from code p zero i j l e h = absurd (omega arith)
flows-from code p (suc m) i j l e h = at (λ g. flows-from code p m i j g e h) (cases i m l)
  where
    cases : (a b : ℕ) → a < suc b → (a < b) ⊎ (a ≡ b)
    cases a b g = grind (arith)

    at : (i < m → flows_from code p m j ≡ true) → (i < m) ⊎ (i ≡ m) → (p m && flows code m j || flows_from code p m j) ≡ true
    at below (inl g) = or_right (p m && flows code m j) (flows_from code p m j) (below g)
    at below (inr g) =
        or_left (p m && flows code m j) (flows_from code p m j)
        (and_from (p m) (flows code m j) (subst (λ k. p k ≡ true) g e) (subst (λ k. flows code k j ≡ true) g h))

-- the instruction that flows there
comes-from : (code : List Abs) (p : ℕ → Bool) (m j : ℕ) → flows_from code p m j ≡ true → (i : ℕ) × (p i ≡ true) × (flows code i j ≡ true)
comes-from code p zero j h = absurd (true≢false (sym h))
comes-from code p (suc m) j h = at (comes-from code p m j) (or_cases (p m && flows code m j) (flows_from code p m j) h)
  where
    at : (flows_from code p m j ≡ true → (i : ℕ) × (p i ≡ true) × (flows code i j ≡ true))
        → ((p m && flows code m j) ≡ true) ⊎ (flows_from code p m j ≡ true) → (i : ℕ) × (p i ≡ true) × (flows code i j ≡ true)
    at below (inl e) = let b = and_parts (p m) (flows code m j) e in (m, b.0, b.1)
    at below (inr e) = below e

flows-grows : (code : List Abs) (p q : ℕ → Bool) (m j : ℕ) → ((k : ℕ) → p k ≡ true → q k ≡ true) → flows_from code p m j ≡ true → flows_from code q m j ≡ true
flows-grows code p q zero j grows h = h
flows-grows code p q (suc m) j grows h = at (flows-grows code p q m j grows) (or_cases (p m && flows code m j) (flows_from code p m j) h)
  where
    at : (flows_from code p m j ≡ true → flows_from code q m j ≡ true)
        → ((p m && flows code m j) ≡ true) ⊎ (flows_from code p m j ≡ true) → (q m && flows code m j || flows_from code q m j) ≡ true
    at below (inl e) =
        let b = and_parts (p m) (flows code m j) e in
        or_left (q m && flows code m j) (flows_from code q m j) (and_from (q m) (flows code m j) (grows m b.0) b.1)
    at below (inr e) = or_right (q m && flows code m j) (flows_from code q m j) (below e)

flows-within : (code : List Abs) (i j : ℕ) → flows code i j ≡ true → j < length code
flows-within code i j h = ltb-true j (length code) ((and_parts (nat_lt j (length code)) _ h).0)

-- The sets of the reached

reached-within : (n : ℕ) (code : List Abs) (i : ℕ) → reached_in n code i ≡ true → i < length code
reached-within zero code i h =
    let b = and_parts (i == 0) (nat_lt 0 (length code)) h in
    let e = eqb-true i 0 b.0 in
    let l = ltb-true 0 (length code) b.1 in
    omega arith
reached-within (suc n) code i h = at (reached-within n code i) (or_cases (reached_in n code i) (flows_from code (reached_in n code) (length code) i) h)
  where
    at : (reached_in n code i ≡ true → i < length code) → (reached_in n code i ≡ true) ⊎ (flows_from code (reached_in n code) (length code) i ≡ true) → i < length code
    at before (inl e) = before e
    at before (inr e) = let c = comes-from code (reached_in n code) (length code) i e in flows-within code c.0 i c.2

reached-grows : (n : ℕ) (code : List Abs) (i : ℕ) → reached_in n code i ≡ true → reached_in (suc n) code i ≡ true
reached-grows n code i h = or_left (reached_in n code i) (flows_from code (reached_in n code) (length code) i) h

-- another step reaches no more
abbrev Still : ℕ → List Abs → Type 0
Still n code = (i : ℕ) → reached_in (suc n) code i ≡ true → reached_in n code i ≡ true

still-on : (n : ℕ) (code : List Abs) → Still n code → Still (suc n) code
still-on n code still i h =
    at (or_cases (reached_in (suc n) code i) (flows_from code (reached_in (suc n) code) (length code) i) h)
  where
    at : (reached_in (suc n) code i ≡ true) ⊎ (flows_from code (reached_in (suc n) code) (length code) i ≡ true) → reached_in (suc n) code i ≡ true
    at (inl e) = e
    at (inr e) =
        or_right (reached_in n code i) (flows_from code (reached_in n code) (length code) i)
        (flows-grows code (reached_in (suc n) code) (reached_in n code) (length code) i still e)

number_one : (b : Bool) → b ≡ true → number b ≡ 1
unfolding number
number_one b e = ap number e

count-some : (p : ℕ → Bool) (m : ℕ) → p 0 ≡ true → 0 < m → 1 ≤ count p m
unfolding number count
count-some p zero h l = absurd (omega arith)
count-some p (suc zero) h l = let e = number_one (p 0) h in omega arith
count-some p (suc (suc m)) h l = let g = count-some p (suc m) h (omega arith) in omega arith

still-or-more : (n : ℕ) (code : List Abs) → 0 < length code → Still n code ⊎ (suc n ≤ count (reached_in n code) (length code))
still-or-more zero code l = inr (count-some (reached_in 0 code) (length code) (lt-ltb 0 (length code) l) l)
still-or-more (suc n) code l = at (still-or-more n code l) (same-or-more (reached_in n code) (reached_in (suc n) code) (length code) (reached-grows n code))
  where
    at : Still n code ⊎ (suc n ≤ count (reached_in n code) (length code))
        → Within (reached_in (suc n) code) (reached_in n code) (length code) ⊎ (count (reached_in n code) (length code) < count (reached_in (suc n) code) (length code))
        → Still (suc n) code ⊎ (suc (suc n) ≤ count (reached_in (suc n) code) (length code))
    at (inl still) c = inl (still-on n code still)
    at (inr more) (inl same) = inl (still-on n code (λ i h. same i (reached-within (suc n) code i h) h))
    at (inr more) (inr most) = inr (omega arith)

still : (code : List Abs) → 0 < length code → Still (length code) code
still code l = at (still-or-more (length code) code l)
  where
    at : Still (length code) code ⊎ (suc (length code) ≤ count (reached_in (length code) code) (length code)) → Still (length code) code
    at (inl h) = h
    at (inr h) = let g = count-small (reached_in (length code) code) (length code) in absurd (omega arith)

-- Ways

along-on : (code : List Abs) (i j k : ℕ) (way : List ℕ) → Along code i way j → flows code j k ≡ true → Along code i (way ++ k ∷ []) k
along-on code i j k [] h f = (subst (λ a. flows code a k ≡ true) (sym h) f, refl)
along-on code i j k (w ∷ way) h f = (h.0, along-on code w j k way h.1 f)

-- what is reached has a way
has-way : (n : ℕ) (code : List Abs) (i : ℕ) → reached_in n code i ≡ true → (way : List ℕ) × Along code 0 way i
has-way zero code i h = ([], sym (eqb-true i 0 ((and_parts (i == 0) (nat_lt 0 (length code)) h).0)))
has-way (suc n) code i h = at (has-way n code) (or_cases (reached_in n code i) (flows_from code (reached_in n code) (length code) i) h)
  where
    at : ((k : ℕ) → reached_in n code k ≡ true → (way : List ℕ) × Along code 0 way k) → (reached_in n code i ≡ true) ⊎ (flows_from code (reached_in n code) (length code) i ≡ true) → (way : List ℕ) × Along code 0 way i
    at before (inl e) = before i e
    at before (inr e) =
        let c = comes-from code (reached_in n code) (length code) i e in
        let w = before c.0 c.1 in
        (w.0 ++ i ∷ [], along-on code 0 c.0 i w.0 w.1 c.2)

first-in : (n : ℕ) (code : List Abs) → 0 < length code → reached_in n code 0 ≡ true
first-in zero code l = lt-ltb 0 (length code) l
first-in (suc n) code l = reached-grows n code 0 (first-in n code l)

-- from what is reached control goes to what is reached
pub reached-flows : (code : List Abs) (i j : ℕ) → reached code i ≡ true → flows code i j ≡ true → reached code j ≡ true
unfolding reached
reached-flows code i j h f =
    let l = reached-within (length code) code i h in
    still code (omega arith) j
    (or_right (reached_in (length code) code j) (flows_from code (reached_in (length code) code) (length code) j)
    (flows-from code (reached_in (length code) code) (length code) i j l h f))

pub reached-first : (code : List Abs) → 0 < length code → reached code 0 ≡ true
unfolding reached
reached-first code l = first-in (length code) code l

reached-along : (code : List Abs) (i k : ℕ) (way : List ℕ) → reached code i ≡ true → Along code i way k → reached code k ≡ true
reached-along code i k [] h e = subst (λ a. reached code a ≡ true) e h
reached-along code i k (j ∷ way) h e = reached-along code j k way (reached-flows code i j h e.0) e.1

pub reached_by_ways : ReachedByWays
unfolding reached
reached_by_ways code i = (
  λ h. let l = reached-within (length code) code i h in
      let w = has-way (length code) code i h in
      (omega arith, w.0, w.1),
  λ h. reached-along code 0 i h.1 (reached-first code h.0) h.2,
)
