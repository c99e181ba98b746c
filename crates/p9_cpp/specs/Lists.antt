-- Words on lists.
use Rattle.std.specs.Prelude.{◌≡◌, Bool, true, false, List, [], ◌∷◌}

abbrev pub is_empty : {A : Type 0} → List A → Bool
is_empty [] = true
is_empty (x ∷ xs) = false

abbrev pub IsFirst : {A : Type 0} → List A → A → Type 0
IsFirst [] x = ⊥
IsFirst (y ∷ ys) x = y ≡ x
