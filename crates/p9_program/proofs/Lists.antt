-- Lists by the numbers of their elements.
use Rattle.std.proofs.Common.{◌≡◌, ◌≤◌, ◌<◌, ◌⊎◌, inl, inr, ℕ, zero, suc, ◌+◌, ◌-◌, ◌||◌, ◌==◌, nat_lt, Bool, true, false, if◌then◌else◌, Some, None, List, [], ◌∷◌, ◌++◌, map, filter, length, slice_get, refl, sym, ap, ◌∙◌, subst, arith}
use Rattle.std.specs.Prelude.{Contains}
use Rattle.std.specs.List.{list_any}
use Rattle.std.proofs.lemmas.Bool.{true≢false, and_parts}
use Rattle.std.proofs.lemmas.Bool.Decides.{nat_tests}
use Rattle.p9_lang.specs.Names.{same_name}
use Rattle.p9_cmean.specs.Union.{number_from}

pub split : (i j : ℕ) → (i < j) ⊎ (j ≤ i)
split i j = cut (nat_lt i j) refl
  where
    cut : (t : Bool) → nat_lt i j ≡ t → (i < j) ⊎ (j ≤ i)
    cut true e = inl (grind (arith, nat_tests))
    cut false e = inr (grind (arith, nat_tests))

pub order : (a b : ℕ) → (a < b) ⊎ ((a ≡ b) ⊎ (b < a))
order a b = grind arith

pub some-same : {A : Type 0} (x y : A) → Some x ≡ Some y → x ≡ y
some-same x y e = cc

pub none-some : {A : Type 0} (x : A) → None ≡ Some x → ⊥
none-some x e = cc

-- ELEMENTS

pub get-left : {A : Type 0} (xs ys : List A) (t : ℕ) → t < length xs → slice_get (xs ++ ys) t ≡ slice_get xs t
get-left [] ys t h = absurd (omega (arith, h))
get-left (x ∷ xs) ys zero h = refl
get-left (x ∷ xs) ys (suc t) h = get-left xs ys t (omega (arith, h))

pub get-right : {A : Type 0} (xs ys : List A) (t : ℕ) → slice_get (xs ++ ys) (length xs + t) ≡ slice_get ys t
get-right [] ys t = let e : 0 + t ≡ t = omega arith in ap (slice_get ys) e
get-right (x ∷ xs) ys t = let e : suc (length xs) + t ≡ suc (length xs + t) = omega arith in ap (slice_get (x ∷ (xs ++ ys))) e ∙ get-right xs ys t

pub get-within : {A : Type 0} (xs : List A) (t : ℕ) (x : A) → slice_get xs t ≡ Some x → t < length xs
get-within [] t x e = absurd (none-some x e)
get-within (y ∷ xs) zero x e = omega arith
get-within (y ∷ xs) (suc t) x e = let l = get-within xs t x e in omega (arith, l)

pub get-some : {A : Type 0} (xs : List A) (t : ℕ) → t < length xs → (x : A) × (slice_get xs t ≡ Some x)
get-some [] t h = absurd (omega (arith, h))
get-some (x ∷ xs) zero h = (x, refl)
get-some (x ∷ xs) (suc t) h = get-some xs t (omega (arith, h))

pub get-map : {A B : Type 0} (f : A → B) (xs : List A) (t : ℕ) (x : A) → slice_get xs t ≡ Some x → slice_get (map f xs) t ≡ Some (f x)
get-map f [] t x e = absurd (none-some x e)
get-map f (y ∷ xs) zero x e = ap Some (ap f (some-same y x e))
get-map f (y ∷ xs) (suc t) x e = get-map f xs t x e

pub get-map-back : {A B : Type 0} (f : A → B) (xs : List A) (t : ℕ) (y : B) → slice_get (map f xs) t ≡ Some y → (x : A) × (slice_get xs t ≡ Some x) × (f x ≡ y)
get-map-back f [] t y e = absurd (none-some y e)
get-map-back f (x ∷ xs) zero y e = (x, refl, some-same (f x) y e)
get-map-back f (x ∷ xs) (suc t) y e = get-map-back f xs t y e

-- an element of the second list stands in both
pub get-second : {A : Type 0} (xs ys : List A) (t : ℕ) (x : A) → slice_get ys t ≡ Some x → slice_get (xs ++ ys) (length xs + t) ≡ Some x
get-second xs ys t x e = get-right xs ys t ∙ e

pub get-first : {A : Type 0} (xs ys : List A) (t : ℕ) (x : A) → slice_get xs t ≡ Some x → slice_get (xs ++ ys) t ≡ Some x
get-first xs ys t x e = get-left xs ys t (get-within xs t x e) ∙ e

-- an element of both lists is one of the first or of the second
pub get-either : {A : Type 0} (xs ys : List A) (t : ℕ) (x : A) → slice_get (xs ++ ys) t ≡ Some x → (slice_get xs t ≡ Some x) ⊎ ((u : ℕ) × (t ≡ length xs + u) × (slice_get ys u ≡ Some x))
get-either xs ys t x e = by (split t (length xs))
  where
    by : (t < length xs) ⊎ (length xs ≤ t) → (slice_get xs t ≡ Some x) ⊎ ((u : ℕ) × (t ≡ length xs + u) × (slice_get ys u ≡ Some x))
    by (inl h) = inl (sym (get-left xs ys t h) ∙ e)
    by (inr h) = let z : t ≡ length xs + (t - length xs) = omega (arith, h) in inr (t - length xs, z, sym (get-right xs ys (t - length xs)) ∙ (ap (slice_get (xs ++ ys)) (sym z) ∙ e))

pub contains-at : {A : Type 0} (xs : List A) (t : ℕ) (x : A) → slice_get xs t ≡ Some x → Contains xs x
contains-at [] t x e = absurd (none-some x e)
contains-at (y ∷ xs) zero x e = (0, omega arith, some-same y x e)
contains-at (y ∷ xs) (suc t) x e = let r = contains-at xs t x e in let l = r.1 in (suc r.0, omega (arith, l), r.2)

-- where a list is filtered, what passes stays
pub filter-at : {A : Type 0} (p : A → Bool) (xs : List A) (t : ℕ) (x : A) → slice_get xs t ≡ Some x → p x ≡ true → (u : ℕ) × (slice_get (filter p xs) u ≡ Some x)
filter-at p [] t x e h = absurd (none-some x e)
filter-at p (y ∷ xs) zero x e h = by (p y) refl
  where
    by : (b : Bool) → p y ≡ b → (u : ℕ) × (slice_get (if b then y ∷ filter p xs else filter p xs) u ≡ Some x)
    by true f = (0, e)
    by false f = absurd (true≢false (sym h ∙ (ap p (sym (some-same y x e)) ∙ f)))
filter-at p (y ∷ xs) (suc t) x e h = by (p y) (filter-at p xs t x e h)
  where
    by : (b : Bool) → (u : ℕ) × (slice_get (filter p xs) u ≡ Some x) → (u : ℕ) × (slice_get (if b then y ∷ filter p xs else filter p xs) u ≡ Some x)
    by true r = (suc r.0, r.1)
    by false r = r

-- and what stays passes
pub filter-back : {A : Type 0} (p : A → Bool) (xs : List A) (u : ℕ) (x : A) → slice_get (filter p xs) u ≡ Some x → (t : ℕ) × (slice_get xs t ≡ Some x) × (p x ≡ true)
filter-back p [] u x e = absurd (none-some x e)
filter-back p (y ∷ xs) u x e = by (p y) refl u e (λ i g. filter-back p xs i x g)
  where
    by : (b : Bool) → p y ≡ b → (u : ℕ) → slice_get (if b then y ∷ filter p xs else filter p xs) u ≡ Some x → ((i : ℕ) → slice_get (filter p xs) i ≡ Some x → (t : ℕ) × (slice_get xs t ≡ Some x) × (p x ≡ true))
        → (t : ℕ) × (slice_get (y ∷ xs) t ≡ Some x) × (p x ≡ true)
    by true f zero g rec = (0, g, ap p (sym (some-same y x g)) ∙ f)
    by true f (suc u) g rec = let r = rec u g in (suc r.0, r.1, r.2)
    by false f u g rec = let r = rec u g in (suc r.0, r.1, r.2)

-- TESTS

pub any-at : {A : Type 0} (p : A → Bool) (xs : List A) (t : ℕ) (x : A) → slice_get xs t ≡ Some x → p x ≡ true → list_any p xs ≡ true
any-at p [] t x e h = absurd (none-some x e)
any-at p (y ∷ xs) zero x e h = let z : p y ≡ true = ap p (some-same y x e) ∙ h in ap (λ b. b || list_any p xs) z
any-at p (y ∷ xs) (suc t) x e h = by (p y) (any-at p xs t x e h)
  where
    by : (b : Bool) → list_any p xs ≡ true → (b || list_any p xs) ≡ true
    by true r = refl
    by false r = r

pub any-found : {A : Type 0} (p : A → Bool) (xs : List A) → list_any p xs ≡ true → (t : ℕ) × (x : A) × (slice_get xs t ≡ Some x) × (p x ≡ true)
any-found p [] h = absurd (true≢false (sym h))
any-found p (y ∷ xs) h = by (p y) refl h (any-found p xs)
  where
    by : (b : Bool) → p y ≡ b → (b || list_any p xs) ≡ true → (list_any p xs ≡ true → (t : ℕ) × (x : _) × (slice_get xs t ≡ Some x) × (p x ≡ true)) → (t : ℕ) × (x : _) × (slice_get (y ∷ xs) t ≡ Some x) × (p x ≡ true)
    by true e g rest = (0, y, refl, e)
    by false e g rest = let r = rest g in (suc r.0, r.1, r.2, r.3)

-- the first that passes
pub record IsFirst {A : Type 0} (first : ℕ) (p : A → Bool) (xs : List A) (n : ℕ) : Type 0 where
  pub place : ℕ
  pub item : A
  pub is : n ≡ first + place
  pub found : slice_get xs place ≡ Some item
  pub passes : p item ≡ true

pub number-found : {A : Type 0} (first : ℕ) (p : A → Bool) (xs : List A) (n : ℕ) → number_from first p xs ≡ Some n → IsFirst first p xs n
number-found first p [] n e = absurd (none-some n e)
number-found first p (x ∷ xs) n e = by (p x) refl e (number-found (suc first) p xs n)
  where
    by : (b : Bool) → p x ≡ b → (if b then Some first else number_from (suc first) p xs) ≡ Some n → (number_from (suc first) p xs ≡ Some n → IsFirst (suc first) p xs n) → IsFirst first p (x ∷ xs) n
    by true h g rest = record { place = 0; item = x; is = (let z = some-same first n g in omega (arith, z)); found = refl; passes = h }
    by false h g rest = let r = rest g in let i = r.is in record { place = suc r.place; item = r.item; is = omega (arith, i); found = r.found; passes = r.passes }

pub number-there : {A : Type 0} (first : ℕ) (p : A → Bool) (xs : List A) (t : ℕ) (x : A) → slice_get xs t ≡ Some x → p x ≡ true → (n : ℕ) × (number_from first p xs ≡ Some n)
number-there first p [] t x e h = absurd (none-some x e)
number-there first p (y ∷ xs) zero x e h = let z : p y ≡ true = ap p (some-same y x e) ∙ h in (first, ap (λ b. if b then Some first else number_from (suc first) p xs) z)
number-there first p (y ∷ xs) (suc t) x e h = by (p y) (number-there (suc first) p xs t x e h)
  where
    by : (b : Bool) → (n : ℕ) × (number_from (suc first) p xs ≡ Some n) → (n : ℕ) × ((if b then Some first else number_from (suc first) p xs) ≡ Some n)
    by true r = (first, refl)
    by false r = r

-- NAMES

pub same-is : (x y : List ℕ) → same_name x y ≡ true → x ≡ y
same-is [] [] h = refl
same-is [] (b ∷ y) h = absurd (true≢false (sym h))
same-is (a ∷ x) [] h = absurd (true≢false (sym h))
same-is (a ∷ x) (b ∷ y) h =
    let q = and_parts (a == b) (same_name x y) h in
    let e : a ≡ b = equal q.0 in
    ap (λ l. a ∷ l) (same-is x y q.1) ∙ ap (λ n. n ∷ y) e
  where
    equal : (a == b) ≡ true → a ≡ b
    equal h = grind (arith, nat_tests)

pub same-self : (x : List ℕ) → same_name x x ≡ true
same-self [] = refl
same-self (a ∷ x) = let e : (a == a) ≡ true = grind (arith, nat_tests) in rw (e, same-self x) refl

pub same-of : (x y : List ℕ) → x ≡ y → same_name x y ≡ true
same-of x y e = subst (λ z. same_name x z ≡ true) e (same-self x)
