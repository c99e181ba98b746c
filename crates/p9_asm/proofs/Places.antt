-- The first place in a list at which a test passes.
use Rattle.std.proofs.Common.{◌≡◌, ℕ, zero, suc, ◌+◌, ◌≤◌, Bool, true, false, cond, List, [], ◌∷◌, Some, slice_get, refl, arith}
use Rattle.std.specs.List.{position_from}

pub record FoundAt {X : Type 0} (p : X → Bool) (i : ℕ) (xs : List X) (n : ℕ) : Type 0 where
  pub place : ℕ
  pub item : X
  pub is : n ≡ i + place
  pub here : slice_get xs place ≡ Some item
  pub passes : p item ≡ true

found_step : {X : Type 0} (p : X → Bool) (i : ℕ) (x : X) (xs : List X) (n : ℕ) (b : Bool) → p x ≡ b → cond b (Some i) (position_from p (i + 1) xs) ≡ Some n → (position_from p (i + 1) xs ≡ Some n → FoundAt p (i + 1) xs n) → FoundAt p i (x ∷ xs) n
found_step p i x xs n true e h more =
    let is : n ≡ i + 0 = grind (arith, h) in
    record { place = 0; item = x; is = is; here = refl; passes = e }
found_step p i x xs n false e h more =
    let f = more h in
    let is : n ≡ i + suc f.place = omega (arith, f.is) in
    record { place = suc f.place; item = f.item; is = is; here = f.here; passes = f.passes }

found_from : {X : Type 0} (p : X → Bool) (i : ℕ) (xs : List X) (n : ℕ) → position_from p i xs ≡ Some n → FoundAt p i xs n
found_from p i [] n h = absurd (cc)
found_from p i (x ∷ xs) n h = found_step p i x xs n (p x) refl h (found_from p (i + 1) xs n)

pub record FoundFirst {X : Type 0} (p : X → Bool) (xs : List X) (n : ℕ) : Type 0 where
  pub item : X
  pub here : slice_get xs n ≡ Some item
  pub passes : p item ≡ true

pub found_first : {X : Type 0} (p : X → Bool) (xs : List X) (n : ℕ) → position_from p 0 xs ≡ Some n → FoundFirst p xs n
found_first p xs n h =
    let f = found_from p 0 xs n h in
    let e : f.place ≡ n = omega (arith, f.is) in
    record { item = f.item; here = rw e at f.here; passes = f.passes }

pub record Somewhere {X : Type 0} (p : X → Bool) (i : ℕ) (xs : List X) (k : ℕ) : Type 0 where
  pub place : ℕ
  pub is : position_from p i xs ≡ Some place
  pub early : place ≤ i + k

some_step : {X : Type 0} (p : X → Bool) (i : ℕ) (x : X) (xs : List X) (k : ℕ) (b : Bool) → p x ≡ b → Somewhere p (i + 1) xs k → Somewhere p i (x ∷ xs) (suc k)
some_step p i x xs k true e s = record { place = i; is = rw e refl; early = omega arith }
some_step p i x xs k false e s = record { place = s.place; is = rw e s.is; early = omega (arith, s.early) }

some_from : {X : Type 0} (p : X → Bool) (i : ℕ) (xs : List X) (k : ℕ) (x : X) → slice_get xs k ≡ Some x → p x ≡ true → Somewhere p i xs k
some_from p i [] k x e h = absurd (cc)
some_from p i (y ∷ xs) zero x e h =
    let same : y ≡ x = cc in
    let passes : p y ≡ true = rw same h in
    record { place = i; is = rw passes refl; early = omega arith }
some_from p i (y ∷ xs) (suc k) x e h = some_step p i y xs k (p y) refl (some_from p (i + 1) xs k x e h)

pub somewhere : {X : Type 0} (p : X → Bool) (xs : List X) (k : ℕ) (x : X) → slice_get xs k ≡ Some x → p x ≡ true → Somewhere p 0 xs k
somewhere p xs k x e h = some_from p 0 xs k x e h
