-- Numbers that pass a test: they rise, each passes, and each that passes is among them.
use Rattle.std.proofs.Common.{ℕ, zero, suc, ◌+◌, ◌==◌, ◌≡◌, ◌≢◌, ◌⊎◌, inl, inr, ◌≤◌, ◌<◌, Bool, true, false, refl, sym, ap, ◌∙◌, subst, arith, append_assoc, append-nil, if◌then◌else◌, List, [], ◌∷◌, ◌++◌, length, length-append, slice_index, map, All, AllPairs, Contains}
use Rattle.std.proofs.lemmas.Bool.{false≢true}
use Rattle.std.proofs.lemmas.Bool.Decides.{eqb_tells}
use Rattle.std.proofs.lemmas.List.{get_or_append_left}
use Rattle.std.proofs.lemmas.List.Elements.{All-nil, All-push, All-weaker, All-contains, Contains-append_left, Contains-push, Contains-push_cases}
use Rattle.std.proofs.lemmas.List.Quantifiers.{all_pairs_push}
use Rattle.p9_region.specs.Picking.{picked}

abbrev Tells : ℕ → ℕ → Type 0
Tells x y = (((x == y) ≡ true) × (x ≡ y)) ⊎ (((x == y) ≡ false) × (x ≢ y))

below-step : (xs : List ℕ) (n : ℕ) (b : Bool) → All (λ i. i < n) xs → All (λ i. i < suc n) (if b then xs ++ n ∷ [] else xs)
below-step xs n true h = All-push (λ i. i < suc n) xs n (All-weaker (λ i. i < n) (λ i. i < suc n) (λ x l. omega (arith, l)) xs h) (omega arith)
below-step xs n false h = All-weaker (λ i. i < n) (λ i. i < suc n) (λ x l. omega (arith, l)) xs h

pub picked-below : (p : ℕ → Bool) (n : ℕ) → All (λ i. i < n) (picked p n)
picked-below p zero = All-nil (λ i. i < 0)
picked-below p (suc n) = below-step (picked p n) n (p n) (picked-below p n)

rising-step : (xs : List ℕ) (n : ℕ) (b : Bool) → All (λ i. i < n) xs → AllPairs (λ i j. i < j) xs → AllPairs (λ i j. i < j) (if b then xs ++ n ∷ [] else xs)
rising-step xs n true below h = all_pairs_push (λ i j. i < j) xs n h (λ k d l. below k d l)
rising-step xs n false below h = h

pub picked-rising : (p : ℕ → Bool) (n : ℕ) → AllPairs (λ i j. i < j) (picked p n)
picked-rising p zero = λ i j d l h. absurd (omega (arith, h))
picked-rising p (suc n) = rising-step (picked p n) n (p n) (picked-below p n) (picked-rising p n)

length-step : (xs : List ℕ) (n : ℕ) (b : Bool) → length xs ≤ n → length (if b then xs ++ n ∷ [] else xs) ≤ suc n
length-step xs n true h = let e = length-append xs (n ∷ []) in omega (arith, e, h)
length-step xs n false h = omega (arith, h)

pub picked-length : (p : ℕ → Bool) (n : ℕ) → length (picked p n) ≤ n
picked-length p zero = omega arith
picked-length p (suc n) = length-step (picked p n) n (p n) (picked-length p n)

kept-step : (xs : List ℕ) (n i : ℕ) (b : Bool) → Contains xs i → Contains (if b then xs ++ n ∷ [] else xs) i
kept-step xs n i true c = Contains-append_left xs (n ∷ []) i c
kept-step xs n i false c = c

here-step : (xs : List ℕ) (n : ℕ) (b : Bool) → b ≡ true → Contains (if b then xs ++ n ∷ [] else xs) n
here-step xs n true e = Contains-push xs n
here-step xs n false e = absurd (false≢true e)

pub picked-has : (p : ℕ → Bool) (n i : ℕ) → i < n → p i ≡ true → Contains (picked p n) i
picked-has p zero i l e = absurd (omega (arith, l))
picked-has p (suc n) i l e = by (eqb_tells i n) (λ g. picked-has p n i g e)
  where
    by : Tells i n → (i < n → Contains (picked p n) i) → Contains (if p n then picked p n ++ n ∷ [] else picked p n) i
    by (inl t) rec = subst (λ z. Contains (if p n then picked p n ++ n ∷ [] else picked p n) z) (sym t.1) (here-step (picked p n) n (p n) (subst (λ z. p z ≡ true) t.1 e))
    by (inr t) rec = kept-step (picked p n) n i (p n) (rec (omega (arith, l, t.1)))

from-step : (p : ℕ → Bool) (xs : List ℕ) (n i : ℕ) (b : Bool) → p n ≡ b → (Contains xs i → p i ≡ true) → Contains (if b then xs ++ n ∷ [] else xs) i → p i ≡ true
from-step p xs n i true e rec c = by (Contains-push_cases xs n i c)
  where
    by : Contains xs i ⊎ (n ≡ i) → p i ≡ true
    by (inl h) = rec h
    by (inr h) = subst (λ z. p z ≡ true) h e
from-step p xs n i false e rec c = rec c

pub picked-from : (p : ℕ → Bool) (n i : ℕ) → Contains (picked p n) i → p i ≡ true
picked-from p zero i c = absurd (omega (arith, c.1))
picked-from p (suc n) i c = from-step p (picked p n) n i (p n) refl (picked-from p n i) c

pub picked-within : (p : ℕ → Bool) (n i : ℕ) → Contains (picked p n) i → i < n
picked-within p n i c = All-contains (λ k. k < n) (picked p n) i (picked-below p n) c

none-step : (xs : List ℕ) (n : ℕ) (b : Bool) → b ≡ false → xs ≡ [] → (if b then xs ++ n ∷ [] else xs) ≡ []
none-step xs n true e h = absurd (false≢true (sym e))
none-step xs n false e h = h

picked-none : (p : ℕ → Bool) (n : ℕ) → ((k : ℕ) → k < n → p k ≡ false) → picked p n ≡ []
picked-none p zero h = refl
picked-none p (suc n) h = none-step (picked p n) n (p n) (h n (omega arith)) (picked-none p n (λ k l. h k (omega (arith, l))))

first-step : (xs : List ℕ) (n r : ℕ) (b : Bool) → 0 < length xs → slice_index xs 0 ≡ r → slice_index (if b then xs ++ n ∷ [] else xs) 0 ≡ r
first-step xs n r true l e = get_or_append_left xs (n ∷ []) 0 0 l ∙ e
first-step xs n r false l e = e

one-step : (xs : List ℕ) (n : ℕ) (b : Bool) → b ≡ true → xs ≡ [] → slice_index (if b then xs ++ n ∷ [] else xs) 0 ≡ n
one-step xs n true e h = ap (λ z. slice_index (z ++ n ∷ []) 0) h
one-step xs n false e h = absurd (false≢true e)

-- the first that passes
pub picked-first : (p : ℕ → Bool) (n r : ℕ) → r < n → p r ≡ true → ((k : ℕ) → k < r → p k ≡ false) → slice_index (picked p n) 0 ≡ r
picked-first p zero r l e below = absurd (omega (arith, l))
picked-first p (suc n) r l e below = by (eqb_tells r n) (λ g. picked-first p n r g e below)
  where
    by : Tells r n → (r < n → slice_index (picked p n) 0 ≡ r) → slice_index (if p n then picked p n ++ n ∷ [] else picked p n) 0 ≡ r
    by (inl t) rec =
        one-step (picked p n) n (p n) (subst (λ z. p z ≡ true) t.1 e) (picked-none p n (λ k g. below k (omega (arith, g, t.1)))) ∙ sym t.1
    by (inr t) rec =
        let g : r < n = omega (arith, l, t.1) in
        let c = picked-has p n r g e in
        first-step (picked p n) n r (p n) (let h = c.1 in omega (arith, h)) (rec g)

-- One more number, in a loop

pub picked-more : (p : ℕ → Bool) (n : ℕ) (b : Bool) (xs after : List ℕ) → b ≡ p n → xs ≡ picked p n → after ≡ (if b then xs ++ n ∷ [] else xs) → after ≡ picked p (n + 1)
picked-more p n b xs after e h a =
    a ∙ (ap (λ z. if b then z ++ n ∷ [] else z) h ∙ (ap (λ t. if t then picked p n ++ n ∷ [] else picked p n) e ∙ ap (picked p) (let q : suc n ≡ n + 1 = omega arith in q)))

map-step : (f : ℕ → ℕ) (xs : List ℕ) (n : ℕ) (b : Bool) → (if b then map f xs ++ f n ∷ [] else map f xs) ≡ map f (if b then xs ++ n ∷ [] else xs)
map-step f xs n true = sym (map-push f xs n)
  where
    map-push : (f : ℕ → ℕ) (xs : List ℕ) (n : ℕ) → map f (xs ++ n ∷ []) ≡ map f xs ++ f n ∷ []
    map-push f [] n = refl
    map-push f (x ∷ xs) n = ap (λ z. f x ∷ z) (map-push f xs n)
map-step f xs n false = refl

pub picked-map-more : (f : ℕ → ℕ) (p : ℕ → Bool) (n : ℕ) (b : Bool) (xs after : List ℕ) → b ≡ p n → xs ≡ map f (picked p n) → after ≡ (if b then xs ++ f n ∷ [] else xs) → after ≡ map f (picked p (n + 1))
picked-map-more f p n b xs after e h a =
    a ∙ (ap (λ z. if b then z ++ f n ∷ [] else z) h ∙ (ap (λ t. if t then map f (picked p n) ++ f n ∷ [] else map f (picked p n)) e
    ∙ (map-step f (picked p n) n (p n) ∙ ap (λ k. map f (picked p k)) (let q : suc n ≡ n + 1 = omega arith in q))))

-- the same for regions
region-step : {X : Type 0} (f : ℕ → X) (old : List X) (xs : List ℕ) (n : ℕ) (b : Bool) → (if b then (old ++ map f xs) ++ f n ∷ [] else old ++ map f xs) ≡ old ++ map f (if b then xs ++ n ∷ [] else xs)
region-step f old xs n true = append_assoc old (map f xs) (f n ∷ []) ∙ ap (λ z. old ++ z) (sym (map-push xs))
  where
    map-push : (xs : List ℕ) → map f (xs ++ n ∷ []) ≡ map f xs ++ f n ∷ []
    map-push [] = refl
    map-push (x ∷ xs) = ap (λ z. f x ∷ z) (map-push xs)
region-step f old xs n false = refl

pub groups-more : {X : Type 0} (f : ℕ → X) (p : ℕ → Bool) (n : ℕ) (old list after : List X) → list ≡ old ++ map f (picked p n) → after ≡ (if p n then list ++ f n ∷ [] else list) → after ≡ old ++ map f (picked p (n + 1))
groups-more f p n old list after h a =
    a ∙ (ap (λ z. if p n then z ++ f n ∷ [] else z) h ∙ (region-step f old (picked p n) n (p n) ∙ ap (λ k. old ++ map f (picked p k)) (let q : suc n ≡ n + 1 = omega arith in q)))

pub groups-none : {X : Type 0} (f : ℕ → X) (old : List X) → old ≡ old ++ map f []
groups-none f old = sym (append-nil old)
