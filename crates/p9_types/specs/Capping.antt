-- Sizes told up to one byte past the limit: those above the limit count as alike.
use Rattle.std.specs.Prelude.{◌≡◌, ℕ, suc, ◌*◌, min, Option, Some, None}
use Rattle.p9_lang.specs.Types.{TypeTree, Array}
use Rattle.p9_lang.specs.Layout.{Extent}

abbrev pub capped : ℕ → ℕ
capped n = min n 16777217

pub record AreAlike (a b : Extent) : Type 0 where
  pub sizes : capped a.size ≡ capped b.size
  pub aligns : a.align ≡ b.align

-- both are incomplete, or both have sizes that count as alike
abbrev pub Alike : Option Extent → Option Extent → Type 0
Alike None None = Unit {0}
Alike None (Some b) = ⊥
Alike (Some a) None = ⊥
Alike (Some a) (Some b) = AreAlike a b

-- the type of the elements of arrays of arrays, and how many there are
abbrev pub innermost : TypeTree → TypeTree
innermost (Array element n) = innermost element
innermost type = type

abbrev pub count_in : TypeTree → ℕ
count_in (Array element n) = count_in element * n
count_in type = 1

-- how deep arrays stand in one another
abbrev pub array_depth : TypeTree → ℕ
array_depth (Array element n) = suc (array_depth element)
array_depth type = 0
