-- Names: lists of bytes. An empty list stands where there is no name.
use Rattle.std.specs.Prelude.{ℕ, Bool, true, false, ◌&&◌, ◌==◌, List, [], ◌∷◌}
use Rattle.std.specs.List.{list_any}

abbrev pub same_name : List ℕ → List ℕ → Bool
same_name [] [] = true
same_name [] (y ∷ ys) = false
same_name (x ∷ xs) [] = false
same_name (x ∷ xs) (y ∷ ys) = (x == y) && same_name xs ys

abbrev pub is_among : List (List ℕ) → List ℕ → Bool
is_among names x = list_any (same_name x) names

abbrev pub is_nameless : List ℕ → Bool
is_nameless [] = true
is_nameless (x ∷ xs) = false
