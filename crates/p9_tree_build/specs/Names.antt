-- Whether a map holds a name, and as what.
use Rattle.std.specs.Prelude.{◌≡◌, ℕ, Bool, List, Option, Vec, bytes_eq, unwrap_or}
use Rattle.std.specs.Map.{lookup}
use Rattle.p9_grammar.specs.declared.scope.ScopeName.{ScopeName}
use Rattle.p9_grammar.specs.Scopes.{is_type_in}

abbrev pub held : {Z : Type 0} → List (Vec ℕ Z × Bool) → (name : List ℕ) → Option Bool
held kinds name = lookup (λ k. bytes_eq name k.items) kinds

-- The map knows of each name what its newest declaration in the list says.
abbrev pub Knows : {Z : Type 0} → List (Vec ℕ Z × Bool) → List ScopeName → Type 0
Knows kinds names = (name : List ℕ) (outside : Bool) → is_type_in names name outside ≡ unwrap_or (held kinds name) outside
