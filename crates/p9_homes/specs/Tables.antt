-- The table of what homes hold: at each instruction a cell for each of R9 to R20, with the automatic
-- that the home holds there (`cell`, `IsTable`), and the home of an automatic by the table (`home_in`).
use Rattle.std.specs.Prelude.{ℕ, zero, suc, ◌+◌, ◌*◌, ◌==◌, ◌≡◌, ◌⊎◌, ◌<◌, Bool, false, Option, Some, None, List, length, slice_get, slice_index_or, All, Contains, if◌then◌else◌}
use Rattle.p9_abs.specs.declared.regions.Region.{Region}

abbrev pub cell : List (Option ℕ) → ℕ → ℕ → Option ℕ
cell table i g = slice_index_or table (i * 12 + g) None

-- home 9 + g holds v at the points, and the other cells are as before
pub record AreMarked (points : List ℕ) (v g : ℕ) (before after : List (Option ℕ)) : Type 0 where
  pub count : length after ≡ length before
  pub marked : (i : ℕ) → Contains points i → cell after i g ≡ Some v
  pub others : (i b : ℕ) → b < 12 → ((b ≡ g) × Contains points i) ⊎ (cell after i b ≡ cell before i b)

-- the points of all regions are below n
abbrev pub AreWithin : ℕ → List Region → Type 0
AreWithin n rs = All (λ r. All (λ i. i < n) r.points) rs

-- region r, the j-th, has home 9 + g
abbrev pub IsAt : List Region → List (Option ℕ) → ℕ → Region → ℕ → Type 0
IsAt rs homes j r g = (slice_get rs j ≡ Some r) × (slice_get homes j ≡ Some (Some (9 + g)))

-- among the first k regions those with homes, and none else, stand in the cells of their points
pub record IsTable (rs : List Region) (homes : List (Option ℕ)) (k count : ℕ) (table : List (Option ℕ)) : Type 0 where
  pub size : length table ≡ count * 12
  pub each : (i g v : ℕ) → g < 12 → cell table i g ≡ Some v → (j : ℕ) × (r : Region) × (j < k) × IsAt rs homes j r g × (r.auto ≡ v) × Contains r.points i
  pub every : (j i g : ℕ) (r : Region) → j < k → IsAt rs homes j r g → Contains r.points i → cell table i g ≡ Some r.auto

-- The home of an automatic

abbrev pub is_it : ℕ → Option ℕ → Bool
is_it v None = false
is_it v (Some w) = w == v

-- the last of the first m homes whose cell at i has v
unfoldable pub home_below : List (Option ℕ) → ℕ → ℕ → ℕ → Option ℕ
home_below table i v zero = None
home_below table i v (suc m) = if is_it v (cell table i m) then Some (9 + m) else home_below table i v m

abbrev pub home_in : List (Option ℕ) → ℕ → ℕ → Option ℕ
home_in table i v = home_below table i v 12
