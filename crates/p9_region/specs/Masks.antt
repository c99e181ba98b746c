-- Masks of the homes that are taken at each instruction: bit g stands for R9 and g more
-- (`IsUnion`, `AreMarked`, `IsChosen`).
use Rattle.std.specs.Prelude.{ℕ, ◌-◌, ◌≡◌, ◌≢◌, ◌⊎◌, ◌≤◌, ◌<◌, Bool, true, Option, Some, None, List, length, slice_index, Contains}
use Rattle.std.specs.Int.{bit_at}

-- the bits of a mask are those that are set at some of the points
pub record IsUnion (points used : List ℕ) (mask : ℕ) : Type 0 where
  pub from : (g : ℕ) → bit_at mask g ≡ 1 → (i : ℕ) × Contains points i × (bit_at (slice_index used i) g ≡ 1)
  pub to : (i g : ℕ) → Contains points i → bit_at (slice_index used i) g ≡ 1 → bit_at mask g ≡ 1

-- bit g is set at each point besides
pub record AreMarked (points used : List ℕ) (g : ℕ) (after : List ℕ) : Type 0 where
  pub count : length after ≡ length used
  pub from : (i b : ℕ) → b < 32 → bit_at (slice_index after i) b ≡ 1 → (bit_at (slice_index used i) b ≡ 1) ⊎ ((b ≡ g) × Contains points i)
  pub kept : (i b : ℕ) → b < 32 → bit_at (slice_index used i) b ≡ 1 → bit_at (slice_index after i) b ≡ 1
  pub marked : (i : ℕ) → Contains points i → bit_at (slice_index after i) g ≡ 1

-- a home that no mask of the points has, and then each has; none where it isn't asked for, or where
-- each home stands in some mask
pub record IsChosen (asked : Bool) (points used : List ℕ) (home : Option ℕ) (after : List ℕ) : Type 0 where
  pub count : length after ≡ length used
  pub none : home ≡ None → (after ≡ used) × (asked ≡ true → (g : ℕ) → g < 12 → (i : ℕ) × Contains points i × (bit_at (slice_index used i) g ≡ 1))
  pub some : (h : ℕ) → home ≡ Some h → (9 ≤ h) × (h ≤ 20) × ((i : ℕ) → Contains points i → bit_at (slice_index used i) (h - 9) ≢ 1) × AreMarked points used (h - 9) after
