-- The words of the case labels of a switch.
use Rattle.std.specs.Prelude.{ℕ, Bool, List, nat_eq}
use Rattle.std.specs.List.{list_any}

abbrev pub is_given : (words : List ℕ) → ℕ → Bool
is_given words word = list_any (nat_eq word) words
