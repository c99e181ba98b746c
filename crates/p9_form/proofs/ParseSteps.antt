-- Steps of a reader, and tests of names.
use Rattle.std.proofs.Common.{◌≡◌, ℕ, ◌&&◌, ◌==◌, List, [], ◌∷◌, Option, Some, None, refl, ap}
use Rattle.std.specs.Str.{bytes_eq}
use Rattle.p9_first.specs.Form.{same_name}
use Rattle.p9_form.specs.Reading.{after}

pub after_some : {A B : Type 0} (o : Option A) (next : A → Option B) (x : A) → o ≡ Some x → after o next ≡ next x
unfolding after
after_some o next x e = ap (λ v. after v next) e

pub after_none : {A B : Type 0} (o : Option A) (next : A → Option B) → o ≡ None → after o next ≡ None
unfolding after
after_none o next e = ap (λ v. after v next) e

pub same_bytes : (x y : List ℕ) → same_name x y ≡ bytes_eq x y
same_bytes [] [] = refl
same_bytes [] (b ∷ y) = refl
same_bytes (a ∷ x) [] = refl
same_bytes (a ∷ x) (b ∷ y) = ap (λ v. (a == b) && v) (same_bytes x y)
