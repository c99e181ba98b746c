-- The names that were seen among symbols, those of local ones and those of global ones.
use Rattle.std.specs.Prelude.{◌≡◌, ℕ, Bool, false, ◌||◌, List, bytes_eq, if◌then◌else◌}
use Rattle.std.specs.List.{list_any}
use Rattle.p9_abs.specs.declared.modules.Symbol.{Symbol}
use Rattle.p9_object.specs.Machine.{is_named}

-- the name is among those of this binding
abbrev pub has_name : (locals globals : List (List ℕ)) → (local : Bool) → (name : List ℕ) → Bool
has_name locals globals local name = if local then list_any (bytes_eq name) locals else list_any (bytes_eq name) globals

-- the symbol has this binding and this name
abbrev pub is_alike : Symbol → (local : Bool) → (name : List ℕ) → Bool
is_alike s local name =
    if s.local then (if local then bytes_eq s.name name else false) else (if local then false else bytes_eq s.name name)

-- one more symbol's name was noted
abbrev pub Notes : (locals globals : List (List ℕ)) → Symbol → (new_locals new_globals : List (List ℕ)) → Type 0
Notes locals globals s new_locals new_globals =
    (local : Bool) (name : List ℕ) → has_name new_locals new_globals local name ≡ is_alike s local name || has_name locals globals local name

-- the names are those of the symbols
abbrev pub Knows : (locals globals : List (List ℕ)) → List Symbol → Type 0
Knows locals globals symbols = (local : Bool) (name : List ℕ) → has_name locals globals local name ≡ list_any (is_named local name) symbols
