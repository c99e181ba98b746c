-- What stands in a list.
use Rattle.std.proofs.Common.{◌≡◌, ◌<◌, ◌⊎◌, inl, inr, ℕ, zero, suc, List, [], ◌∷◌, ◌++◌, length, map, flat_map, slice_index_or, Some, None, All, Contains, refl, sym, ap, subst, arith}
use Rattle.std.specs.Prelude.{slice_get}

abbrev pub Within : {X : Type 0} → List X → X → Type 0
Within xs x = (k : ℕ) × (slice_get xs k ≡ Some x)

some_is : {X : Type 0} {x y : X} → Some x ≡ Some y → x ≡ y
some_is h = cc

none_not : {X : Type 0} {x : X} → None ≡ Some x → ⊥
none_not h = cc

pub get_front : {X : Type 0} (xs ys : List X) (k : ℕ) (x : X) → slice_get xs k ≡ Some x → slice_get (xs ++ ys) k ≡ Some x
get_front [] ys k x h = cc
get_front (y ∷ xs) ys zero x h = h
get_front (y ∷ xs) ys (suc k) x h = get_front xs ys k x h

pub within_left : {X : Type 0} (xs ys : List X) (x : X) → Within xs x → Within (xs ++ ys) x
within_left xs ys x h = (h.0, get_front xs ys h.0 x h.1)

pub within_next : {X : Type 0} (y : X) (xs : List X) (x : X) → Within xs x → Within (y ∷ xs) x
within_next y xs x h = (suc h.0, h.1)

pub within_right : {X : Type 0} (xs ys : List X) (x : X) → Within ys x → Within (xs ++ ys) x
within_right [] ys x h = h
within_right (y ∷ xs) ys x h = within_next y (xs ++ ys) x (within_right xs ys x h)

pub within_step : {X : Type 0} (y : X) (xs : List X) (x : X) → Within (y ∷ xs) x → (y ≡ x) ⊎ Within xs x
within_step y xs x h = go h.0 h.1
  where
    go : (k : ℕ) → slice_get (y ∷ xs) k ≡ Some x → (y ≡ x) ⊎ Within xs x
    go zero e = inl (some_is e)
    go (suc k) e = inr (k, e)

pub within_none : {X : Type 0} (x : X) → Within [] x → ⊥
within_none {X = X} x h = by h.0 h.1
  where
    by : (k : ℕ) → slice_get {X = X} [] k ≡ Some x → ⊥
    by zero e = none_not e
    by (suc k) e = none_not e

pub within_append : {X : Type 0} (xs ys : List X) (x : X) → Within (xs ++ ys) x → Within xs x ⊎ Within ys x
within_append [] ys x h = inr h
within_append (y ∷ xs) ys x h = by (within_step y (xs ++ ys) x h) (λ g. within_append xs ys x g)
  where
    later : Within xs x ⊎ Within ys x → Within (y ∷ xs) x ⊎ Within ys x
    later (inl g) = inl (within_next y xs x g)
    later (inr g) = inr g

    by : (y ≡ x) ⊎ Within (xs ++ ys) x → (Within (xs ++ ys) x → Within xs x ⊎ Within ys x) → Within (y ∷ xs) x ⊎ Within ys x
    by (inl e) again = inl (0, ap Some e)
    by (inr g) again = later (again g)

pub within_map : {X Y : Type 0} (f : X → Y) (xs : List X) (x : X) → Within xs x → Within (map f xs) (f x)
within_map f [] x h = absurd (within_none x h)
within_map f (y ∷ xs) x h = by (within_step y xs x h) (λ g. within_map f xs x g)
  where
    by : (y ≡ x) ⊎ Within xs x → (Within xs x → Within (map f xs) (f x)) → Within (f y ∷ map f xs) (f x)
    by (inl e) again = (0, ap (λ z. Some (f z)) e)
    by (inr g) again = within_next (f y) (map f xs) (f x) (again g)

-- of what an element of the mapped list is made
pub from_map : {X Y : Type 0} (f : X → Y) (xs : List X) (y : Y) → Within (map f xs) y → (x : X) × Within xs x × (y ≡ f x)
from_map f [] y h = absurd (within_none y h)
from_map {X} f (z ∷ xs) y h = by (within_step (f z) (map f xs) y h) (λ g. from_map f xs y g)
  where
    by : (f z ≡ y) ⊎ Within (map f xs) y → (Within (map f xs) y → (x : X) × Within xs x × (y ≡ f x)) → (x : X) × Within (z ∷ xs) x × (y ≡ f x)
    by (inl e) again = (z, (0, refl), sym e)
    by (inr g) again = let r = again g in (r.0, within_next z xs r.0 r.1, r.2)

pub within_flat_map : {X Y : Type 0} (f : X → List Y) (xs : List X) (x : X) (y : Y) → Within xs x → Within (f x) y → Within (flat_map f xs) y
within_flat_map f [] x y h g = absurd (within_none x h)
within_flat_map f (z ∷ xs) x y h g = by (within_step z xs x h) (λ i. within_flat_map f xs x y i g)
  where
    by : (z ≡ x) ⊎ Within xs x → (Within xs x → Within (flat_map f xs) y) → Within (f z ++ flat_map f xs) y
    by (inl e) again = within_left (f z) (flat_map f xs) y (subst (λ w. Within (f w) y) (sym e) g)
    by (inr i) again = within_right (f z) (flat_map f xs) y (again i)

pub from_flat_map : {X Y : Type 0} (f : X → List Y) (xs : List X) (y : Y) → Within (flat_map f xs) y → (x : X) × Within xs x × Within (f x) y
from_flat_map f [] y h = absurd (within_none y h)
from_flat_map {X} f (z ∷ xs) y h = by (within_append (f z) (flat_map f xs) y h) (λ g. from_flat_map f xs y g)
  where
    by : Within (f z) y ⊎ Within (flat_map f xs) y → (Within (flat_map f xs) y → (x : X) × Within xs x × Within (f x) y) → (x : X) × Within (z ∷ xs) x × Within (f x) y
    by (inl g) again = (z, (0, refl), g)
    by (inr g) again = let r = again g in (r.0, within_next z xs r.0 r.1, r.2)

pub all_at : {X : Type 0} (P : X → Type 0) (xs : List X) (k : ℕ) (x : X) → All P xs → slice_get xs k ≡ Some x → P x
all_at P [] k x h e = absurd (within_none x (k, e))
all_at P (y ∷ xs) zero x h e = subst P (some_is e) (h 0 y (omega arith))
all_at P (y ∷ xs) (suc k) x h e = all_at P xs k x (λ i d l. h (suc i) d (omega (arith, l))) e

pub all_within : {X : Type 0} (P : X → Type 0) (xs : List X) (x : X) → All P xs → Within xs x → P x
all_within P xs x h w = all_at P xs w.0 x h w.1

pub get_at : {X : Type 0} (xs : List X) (k : ℕ) (d : X) → k < length xs → slice_get xs k ≡ Some (slice_index_or xs k d)
get_at [] k d l = absurd (omega (arith, l))
get_at (y ∷ xs) zero d l = refl
get_at (y ∷ xs) (suc k) d l = get_at xs k d (omega (arith, l))

pub from_all : {X : Type 0} (P : X → Type 0) (xs : List X) → ((x : X) → Within xs x → P x) → All P xs
from_all P xs h k d l = h (slice_index_or xs k d) (k, get_at xs k d l)

pub get_below : {X : Type 0} (xs : List X) (k : ℕ) (x : X) → slice_get xs k ≡ Some x → k < length xs
get_below [] k x h = absurd (within_none x (k, h))
get_below (y ∷ xs) zero x h = omega arith
get_below (y ∷ xs) (suc k) x h = let r = get_below xs k x h in omega (arith, r)

pub get_is : {X : Type 0} (xs : List X) (k : ℕ) (x d : X) → slice_get xs k ≡ Some x → slice_index_or xs k d ≡ x
get_is [] k x d h = absurd (within_none x (k, h))
get_is (y ∷ xs) zero x d h = some_is h
get_is (y ∷ xs) (suc k) x d h = get_is xs k x d h

pub contains_within : {X : Type 0} (xs : List X) (x : X) → Within xs x → Contains xs x
contains_within xs x w = (w.0, get_below xs w.0 x w.1, get_is xs w.0 x x w.1)
