-- The names that were seen among symbols, those of local ones and those of global ones.
use Rattle.std.specs.Prelude.{◌≡◌, ℕ, Bool, false, ◌||◌, List, bytes_eq, if◌then◌else◌}
use Rattle.std.specs.List.{list_any}
use Rattle.p9_abs.specs.declared.modules.Symbol.{Symbol}

-- the name of the symbol is among those of its binding
abbrev pub holds : List (List ℕ) → List (List ℕ) → Symbol → Bool
holds locals globals s = if s.local then list_any (bytes_eq s.name) locals else list_any (bytes_eq s.name) globals

-- the two have the same binding and the same name
abbrev pub is_alike : Symbol → Symbol → Bool
is_alike a b = if a.local then (if b.local then bytes_eq a.name b.name else false) else (if b.local then false else bytes_eq a.name b.name)

-- one more symbol's name was noted: what is held now is what was held, and what is like that symbol
abbrev pub Notes : List (List ℕ) → List (List ℕ) → Symbol → List (List ℕ) → List (List ℕ) → Type 0
Notes locals globals s new_locals new_globals = (t : Symbol) → holds new_locals new_globals t ≡ is_alike s t || holds locals globals t
