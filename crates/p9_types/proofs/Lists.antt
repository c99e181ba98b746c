-- Lists that are gone through from the front.
use Rattle.std.proofs.Common.{◌≡◌, ◌≤◌, ◌<◌, ◌-◌, List, [], ◌∷◌, length, get_or, take, drop, refl, sym, ap, ◌∙◌, arith}
use Rattle.std.proofs.lemmas.List.{take_all}

-- the first of a list, and the others
pub first_and_others : {X : Type 0} (xs : List X) (x : X) → 1 ≤ length xs → x ≡ get_or xs 0 x → xs ≡ x ∷ take (length xs - 1) (drop 1 xs)
first_and_others [] x le e = absurd (omega arith)
first_and_others (y ∷ ys) x le e = ap (λ z. z ∷ ys) (sym e) ∙ ap (λ l. x ∷ l) (sym (take_all (length (y ∷ ys) - 1) ys (omega arith)))

pub empty_by_length : {X : Type 0} (xs : List X) → length xs ≡ 0 → xs ≡ []
empty_by_length [] e = refl
empty_by_length (x ∷ xs) e = absurd (omega arith)

pub nothing_left : {X : Type 0} (xs : List X) → (1 ≤ length xs → ⊥) → xs ≡ []
nothing_left [] f = refl
nothing_left (x ∷ xs) f = absurd (f (omega arith))

pub empty_below : {X : Type 0} (xs : List X) → length xs < 1 → xs ≡ []
empty_below [] e = refl
empty_below (x ∷ xs) e = absurd (omega arith)

pub first_or : {X : Type 0} (xs : List X) (d : X) → 1 ≤ length xs → xs ≡ get_or xs 0 d ∷ take (length xs - 1) (drop 1 xs)
first_or [] d le = absurd (omega arith)
first_or (y ∷ ys) d le = ap (λ l. y ∷ l) (sym (take_all (length (y ∷ ys) - 1) ys (omega arith)))
