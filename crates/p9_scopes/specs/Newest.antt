-- Where the newest of a name stands in a list of names, the newest first.
use Rattle.std.specs.Prelude.{◌≡◌, ℕ, List, [], ◌∷◌, length, if◌then◌else◌, Option, Some, None, Vec, bytes_eq}
use Rattle.std.specs.Map.{lookup}
use Rattle.p9_lang.specs.Names.{same_name, is_among}
use Rattle.p9_scopes.specs.declared.newest.Latest.{Latest}

abbrev pub held : {A Z : Type 0} → List (Vec ℕ Z × A) → (name : List ℕ) → Option A
held entries name = lookup (λ k. bytes_eq name k.items) entries

abbrev pub older : Option Latest → Option ℕ
older None = None
older (Some latest) = Some latest.at

-- counted from the oldest
abbrev pub latest_in : List ℕ → List (List ℕ) → Option Latest
latest_in x [] = None
latest_in x (y ∷ ys) =
    if same_name x y then Some (record { at = length ys; before = older (latest_in x ys) }) else latest_in x ys

-- the map has of each name where its newest stands
abbrev pub Finds : {Z : Type 0} → List (Vec ℕ Z × Latest) → List (List ℕ) → Type 0
Finds entries names = (x : List ℕ) → held entries x ≡ latest_in x names

-- two lists of names have the same ones
abbrev pub HasSame : List (List ℕ) → List (List ℕ) → Type 0
HasSame names others = (x : List ℕ) → is_among names x ≡ is_among others x
