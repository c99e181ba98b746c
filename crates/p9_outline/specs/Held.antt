-- Sets of names, as they are held.
use Rattle.std.specs.Prelude.{ℕ, Bool, true, false, List, [], ◌∷◌, Option, Some, None, bytes_eq}
use Rattle.std.specs.List.{list_any}
use Rattle.std.specs.Borrow.{Bor}
use Rattle.p9_lang.specs.declared.tree.Kind.{Kind}
use Rattle.p9_lang.specs.declared.tree.Kind.TheVariants as kind
use Rattle.p9_lang.specs.Types.{Meant, Nothing, Outer, Static, Auto, EnumValue, TypeName}

abbrev pub has_name : (keys : List (Bor (List ℕ))) → (name : List ℕ) → Bool
has_name keys name = list_any (λ k. bytes_eq name k.now) keys

abbrev pub told_name : Option (Bor (List ℕ)) → List (List ℕ)
told_name None = []
told_name (Some name) = name.now ∷ []

-- the name of file scope that a meaning is
abbrev pub outer_names : Meant → List (List ℕ)
outer_names (Outer name) = name ∷ []
outer_names Nothing = []
outer_names (Static number) = []
outer_names (Auto number) = []
outer_names (EnumValue value) = []
outer_names (TypeName type) = []

-- names in expressions
abbrev pub is_use : Kind → Bool
is_use (kind.Name x) = true
is_use k = false
