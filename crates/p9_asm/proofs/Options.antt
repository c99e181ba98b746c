-- Facts of each element of a list, of what an option holds, and of tests.
use Rattle.std.proofs.Common.{◌≡◌, ℕ, zero, suc, Bool, true, false, cond, not, List, [], ◌∷◌, ◌++◌, take, drop, Option, Some, None, IfSome, slice_get, refl, subst, All}
use Rattle.std.specs.Prelude.{option_map, option_and_then}
use Rattle.std.specs.Option.{option_or}
use Rattle.std.proofs.lemmas.List.Elements.{All-nil, All-cons}

abbrev pub Each : {X : Type 0} → (X → Type 0) → List X → Type 0
Each P [] = Unit {0}
Each P (x ∷ xs) = P x × Each P xs

pub each_take : {X : Type 0} (P : X → Type 0) (n : ℕ) (xs : List X) → Each P xs → Each P (take n xs)
each_take P zero xs h = tt
each_take P (suc n) [] h = tt
each_take P (suc n) (x ∷ xs) h = (h.0, each_take P n xs h.1)

pub each_drop : {X : Type 0} (P : X → Type 0) (n : ℕ) (xs : List X) → Each P xs → Each P (drop n xs)
each_drop P zero xs h = h
each_drop P (suc n) [] h = tt
each_drop P (suc n) (x ∷ xs) h = each_drop P n xs h.1

pub each_append : {X : Type 0} (P : X → Type 0) (xs ys : List X) → Each P xs → Each P ys → Each P (xs ++ ys)
each_append P [] ys h k = k
each_append P (x ∷ xs) ys h k = (h.0, each_append P xs ys h.1 k)

pub each_get : {X : Type 0} (P : X → Type 0) (xs : List X) (n : ℕ) (x : X) → Each P xs → slice_get xs n ≡ Some x → P x
each_get P [] n x h e = absurd (cc)
each_get {X} P (y ∷ ys) zero x h e =
    let same : y ≡ x = cc in
    subst P same h.0
each_get P (y ∷ ys) (suc n) x h e = each_get P ys n x h.1 e

pub each_made : {X : Type 0} (P : X → Type 0) (xs : List X) → ((n : ℕ) (x : X) → slice_get xs n ≡ Some x → P x) → Each P xs
each_made P [] h = tt
each_made P (x ∷ xs) h = (h 0 x refl, each_made P xs (λ n y e. h (suc n) y e))

pub all_each : {X : Type 0} (P : X → Type 0) (xs : List X) → Each P xs → All P xs
all_each P [] h = All-nil P
all_each P (x ∷ xs) h = All-cons P x xs h.0 (all_each P xs h.1)

pub if_then : {A B : Type 0} (f : A → Option B) (o : Option A) (P : A → Type 0) (Q : B → Type 0) → IfSome o P → ((x : A) → P x → IfSome (f x) Q) → IfSome (option_and_then f o) Q
if_then f None P Q h k = tt
if_then f (Some x) P Q h k = k x h

pub if_map : {A B : Type 0} (f : A → B) (o : Option A) (P : A → Type 0) (Q : B → Type 0) → IfSome o P → ((x : A) → P x → Q (f x)) → IfSome (option_map f o) Q
if_map f None P Q h k = tt
if_map f (Some x) P Q h k = k x h

pub if_test : {A : Type 0} (b : Bool) (x : A) (P : A → Type 0) → (b ≡ true → P x) → IfSome (cond b (Some x) None) P
if_test true x P h = h refl
if_test false x P h = tt

pub if_any : {A : Type 0} (o : Option A) → IfSome o (λ x. Unit {0})
if_any None = tt
if_any (Some x) = tt

pub if_or : {A : Type 0} (o p : Option A) (P : A → Type 0) → IfSome o P → IfSome p P → IfSome (option_or o p) P
if_or None p P h k = k
if_or (Some x) p P h k = h

pub if_is : {A : Type 0} (o : Option A) (x : A) (P : A → Type 0) → IfSome o P → o ≡ Some x → P x
if_is {A} o x P h e = let Q : Option A → Type 0 = λ v. IfSome v P in subst Q e h

pub each_weaker : {X : Type 0} (P Q : X → Type 0) (xs : List X) → ((x : X) → P x → Q x) → Each P xs → Each Q xs
each_weaker P Q [] f h = tt
each_weaker P Q (x ∷ xs) f h = (f x h.0, each_weaker P Q xs f h.1)

pub not_false : (b : Bool) → not b ≡ false → b ≡ true
not_false true h = refl
not_false false h = absurd (cc)
