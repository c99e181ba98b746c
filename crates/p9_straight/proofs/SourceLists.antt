-- Lists: what holds of each element, what some element passes, and elements by their places.
use Rattle.std.proofs.Common.{◌≡◌, ◌≢◌, ◌<◌, ℕ, zero, suc, Bool, true, false, not, ◌&&◌, ◌||◌, if◌then◌else◌, List, [], ◌∷◌, ◌++◌, map, All, Some, None, refl, sym, ap, ◌∙◌, subst, arith, append_assoc}
use Rattle.std.proofs.lemmas.Bool.Decides.{nat_tests}
use Rattle.std.specs.Prelude.{◌==◌, slice_get, slice_set, Contains, flat_map}
use Rattle.std.specs.List.{list_any}
use Rattle.p9_first.specs.Form.{same_name}
use Rattle.p9_first.specs.Union.{number_from}

-- Truth

pub both_left : (a b : Bool) → (a && b) ≡ true → a ≡ true
both_left true b h = refl
both_left false b h = cc

pub both_right : (a b : Bool) → (a && b) ≡ true → b ≡ true
both_right true b h = h
both_right false b h = cc

pub not_true : (a : Bool) → not a ≡ true → a ≡ false
not_true true h = cc
not_true false h = refl

pub true_not : {X : Type 0} (a : Bool) → a ≡ true → a ≡ false → X
true_not a h g = absurd (let e : true ≡ false = sym h ∙ g in cc)

pub neither_left : (a b : Bool) → (a || b) ≡ false → a ≡ false
neither_left true b h = cc
neither_left false b h = refl

pub neither_right : (a b : Bool) → (a || b) ≡ false → b ≡ false
neither_right true b h = cc
neither_right false b h = h

pub neither : (a b : Bool) → a ≡ false → b ≡ false → (a || b) ≡ false
neither a b h g = ap (λ c. c || b) h ∙ g

pub or_true : (a b : Bool) → b ≡ true → (a || b) ≡ true
or_true true b h = refl
or_true false b h = h

pub first_true : (a b : Bool) → a ≡ true → (a || b) ≡ true
first_true a b h = ap (λ c. c || b) h

pub or_cases : {P : Type 0} (a b : Bool) → (a || b) ≡ true → (a ≡ true → P) → (b ≡ true → P) → P
or_cases true b h f g = f refl
or_cases false b h f g = g h

pub bool_cases : {P : Type 0} (b : Bool) → (b ≡ true → P) → (b ≡ false → P) → P
bool_cases true f g = f refl
bool_cases false f g = g refl

-- Names

pub eq_of : (a b : ℕ) → (a == b) ≡ true → a ≡ b
eq_of a b h = grind (arith, nat_tests)

pub eq_self : (a : ℕ) → (a == a) ≡ true
eq_self a = grind (arith, nat_tests)

pub same_is : (x y : List ℕ) → same_name x y ≡ true → x ≡ y
same_is [] [] h = refl
same_is [] (b ∷ ys) h = cc
same_is (a ∷ xs) [] h = cc
same_is (a ∷ xs) (b ∷ ys) h =
    ap (λ c. c ∷ xs) (eq_of a b (both_left (a == b) (same_name xs ys) h))
    ∙ ap (λ l. b ∷ l) (same_is xs ys (both_right (a == b) (same_name xs ys) h))

pub same_self : (x : List ℕ) → same_name x x ≡ true
same_self [] = refl
same_self (a ∷ xs) = ap (λ b. b && same_name xs xs) (eq_self a) ∙ same_self xs

-- names that differ aren't the same
pub not_same : (x y : List ℕ) → x ≢ y → same_name x y ≡ false
not_same x y h = by (same_name x y) refl
  where
    by : (b : Bool) → same_name x y ≡ b → b ≡ false
    by true e = absurd (h (same_is x y e))
    by false e = refl

-- Each element

abbrev pub Each : {X : Type 0} → (X → Type 0) → List X → Type 0
Each P [] = Unit {0}
Each P (x ∷ xs) = P x × Each P xs

pub each_append : {X : Type 0} (P : X → Type 0) (xs ys : List X) → Each P xs → Each P ys → Each P (xs ++ ys)
each_append P [] ys h g = g
each_append P (x ∷ xs) ys h g = (h.0, each_append P xs ys h.1 g)

pub each_left : {X : Type 0} (P : X → Type 0) (xs ys : List X) → Each P (xs ++ ys) → Each P xs
each_left P [] ys h = tt
each_left P (x ∷ xs) ys h = (h.0, each_left P xs ys h.1)

pub each_right : {X : Type 0} (P : X → Type 0) (xs ys : List X) → Each P (xs ++ ys) → Each P ys
each_right P [] ys h = h
each_right P (x ∷ xs) ys h = each_right P xs ys h.1

pub each_weaker : {X : Type 0} (P Q : X → Type 0) → ((x : X) → P x → Q x) → (xs : List X) → Each P xs → Each Q xs
each_weaker P Q f [] h = tt
each_weaker P Q f (x ∷ xs) h = (f x h.0, each_weaker P Q f xs h.1)

pub each_both : {X : Type 0} (P Q : X → Type 0) (xs : List X) → Each P xs → Each Q xs → Each (λ x. P x × Q x) xs
each_both P Q [] h g = tt
each_both P Q (x ∷ xs) h g = ((h.0, g.0), each_both P Q xs h.1 g.1)

pub each_map : {X Y : Type 0} (P : Y → Type 0) (f : X → Y) (xs : List X) → Each (λ x. P (f x)) xs → Each P (map f xs)
each_map P f [] h = tt
each_map P f (x ∷ xs) h = (h.0, each_map P f xs h.1)

pub each_of_map : {X Y : Type 0} (P : Y → Type 0) (f : X → Y) (xs : List X) → Each P (map f xs) → Each (λ x. P (f x)) xs
each_of_map P f [] h = tt
each_of_map P f (x ∷ xs) h = (h.0, each_of_map P f xs h.1)

some_is : {X : Type 0} {x y : X} → Some x ≡ Some y → x ≡ y
some_is h = cc

pub each_at : {X : Type 0} (P : X → Type 0) (xs : List X) (n : ℕ) (x : X) → Each P xs → slice_get xs n ≡ Some x → P x
each_at P [] n x h g = absurd (let e : None ≡ Some x = g in cc)
each_at P (y ∷ xs) zero x h g = subst P (some_is g) h.0
each_at P (y ∷ xs) (suc n) x h g = each_at P xs n x h.1 g

pub each_from_all : {X : Type 0} (P : X → Type 0) (xs : List X) → All P xs → Each P xs
each_from_all P [] h = tt
each_from_all P (x ∷ xs) h = (h 0 x (omega arith), each_from_all P xs (λ k d l. h (suc k) d (omega arith)))

-- Some element

pub any_left : {X : Type 0} (p : X → Bool) (xs ys : List X) → list_any p xs ≡ true → list_any p (xs ++ ys) ≡ true
any_left p [] ys h = absurd (let e : false ≡ true = h in cc)
any_left p (x ∷ xs) ys h =
    or_cases (p x) (list_any p xs) h
    (λ e. first_true (p x) (list_any p (xs ++ ys)) e)
    (λ e. or_true (p x) (list_any p (xs ++ ys)) (any_left p xs ys e))

pub any_right : {X : Type 0} (p : X → Bool) (xs ys : List X) → list_any p ys ≡ true → list_any p (xs ++ ys) ≡ true
any_right p [] ys h = h
any_right p (x ∷ xs) ys h = or_true (p x) (list_any p (xs ++ ys)) (any_right p xs ys h)

pub any_weaker : {X : Type 0} (p q : X → Bool) → ((x : X) → p x ≡ true → q x ≡ true) → (xs : List X) → list_any p xs ≡ true → list_any q xs ≡ true
any_weaker p q f [] h = h
any_weaker p q f (x ∷ xs) h =
    or_cases (p x) (list_any p xs) h
    (λ e. first_true (q x) (list_any q xs) (f x e))
    (λ e. or_true (q x) (list_any q xs) (any_weaker p q f xs e))

pub none_passes : {X : Type 0} (p : X → Bool) (xs : List X) → Each (λ x. p x ≡ false) xs → list_any p xs ≡ false
none_passes p [] h = refl
none_passes p (x ∷ xs) h = neither (p x) (list_any p xs) h.0 (none_passes p xs h.1)

pub each_fails : {X : Type 0} (p : X → Bool) (xs : List X) → list_any p xs ≡ false → Each (λ x. p x ≡ false) xs
each_fails p [] h = tt
each_fails p (x ∷ xs) h = (neither_left (p x) (list_any p xs) h, each_fails p xs (neither_right (p x) (list_any p xs) h))

-- which of two lists has it
pub any_either : {X : Type 0} (P : Type 0) (p : X → Bool) (xs ys : List X) → list_any p (xs ++ ys) ≡ true → (list_any p xs ≡ true → P) → (list_any p ys ≡ true → P) → P
any_either P p [] ys h f g = g h
any_either P p (x ∷ xs) ys h f g =
    or_cases (p x) (list_any p (xs ++ ys)) h
    (λ e. f (first_true (p x) (list_any p xs) e))
    (λ e. any_either P p xs ys e (λ d. f (or_true (p x) (list_any p xs) d)) g)

pub any_contained : (xs : List (List ℕ)) (x : List ℕ) → Contains xs x → list_any (same_name x) xs ≡ true
any_contained [] x h = absurd (let l : h.0 < 0 = h.1 in omega (arith, l))
any_contained (y ∷ xs) x (zero, l, e) = first_true (same_name x y) (list_any (same_name x) xs) (subst (λ z. same_name x z ≡ true) (sym e) (same_self x))
any_contained (y ∷ xs) x (suc k, l, e) = or_true (same_name x y) (list_any (same_name x) xs) (any_contained xs x (k, omega (arith, l), e))

pub any_map : {X Y : Type 0} (p : Y → Bool) (f : X → Y) (xs : List X) → list_any (λ x. p (f x)) xs ≡ list_any p (map f xs)
any_map p f [] = refl
any_map p f (x ∷ xs) = ap (λ b. p (f x) || b) (any_map p f xs)

chosen : {X : Type 0} (first next : ℕ) (p : X → Bool) (x : X) (xs : List X) → (n : ℕ) × (number_from next p xs ≡ Some n) → (n : ℕ) × ((if p x then Some first else number_from next p xs) ≡ Some n)
chosen first next p x xs h =
    bool_cases (p x)
    (λ e. (first, ap (λ b. if b then Some first else number_from next p xs) e))
    (λ e. (h.0, ap (λ b. if b then Some first else number_from next p xs) e ∙ h.1))

-- the first that passes
pub number_some : {X : Type 0} (first : ℕ) (p : X → Bool) (xs : List X) → list_any p xs ≡ true → (n : ℕ) × (number_from first p xs ≡ Some n)
number_some first p [] h = absurd (let e : false ≡ true = h in cc)
number_some first p (x ∷ xs) h =
    or_cases (p x) (list_any p xs) h
    (λ e. (first, ap (λ b. if b then Some first else number_from (suc first) p xs) e))
    (λ e. chosen first (suc first) p x xs (number_some (suc first) p xs e))

-- Places

pub get_set_same : {X : Type 0} (xs : List X) (n : ℕ) (x y : X) → slice_get xs n ≡ Some x → slice_get (slice_set xs n y) n ≡ Some y
get_set_same [] n x y h = absurd (let e : None ≡ Some x = h in cc)
get_set_same (z ∷ xs) zero x y h = refl
get_set_same (z ∷ xs) (suc n) x y h = get_set_same xs n x y h

pub get_set_other : {X : Type 0} (xs : List X) (m n : ℕ) (x y : X) → m ≢ n → slice_get xs m ≡ Some x → slice_get (slice_set xs n y) m ≡ Some x
get_set_other [] m n x y d h = absurd (let e : None ≡ Some x = h in cc)
get_set_other (z ∷ xs) zero zero x y d h = absurd (d refl)
get_set_other (z ∷ xs) zero (suc n) x y d h = h
get_set_other (z ∷ xs) (suc m) zero x y d h = h
get_set_other (z ∷ xs) (suc m) (suc n) x y d h = get_set_other xs m n x y (λ e. d (ap suc e)) h

pub flat_append : {X Y : Type 0} (f : X → List Y) (xs ys : List X) → flat_map f (xs ++ ys) ≡ flat_map f xs ++ flat_map f ys
flat_append f [] ys = refl
flat_append f (x ∷ xs) ys = ap (λ l. f x ++ l) (flat_append f xs ys) ∙ sym (append_assoc (f x) (flat_map f xs) (flat_map f ys))
