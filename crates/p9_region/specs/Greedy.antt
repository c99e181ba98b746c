-- Homes chosen one after the other in an order: `IsGreedy`.
use Rattle.std.specs.Prelude.{ℕ, ◌+◌, ◌-◌, ◌^◌, ◌≡◌, ◌≢◌, ◌≤◌, ◌<◌, Option, Some, None, List, [], length, slice_get, slice_index, Contains}
use Rattle.std.specs.Int.{bit_at}
use Rattle.p9_abs.specs.declared.regions.Region.{Region}

abbrev pub points_in : Option Region → List ℕ
points_in None = []
points_in (Some r) = r.points

abbrev pub points_of : List Region → ℕ → List ℕ
points_of rs r = points_in (slice_get rs r)

abbrev pub home_in : Option (Option ℕ) → Option ℕ
home_in None = None
home_in (Some home) = home

abbrev pub home_of : List (Option ℕ) → ℕ → Option ℕ
home_of homes r = home_in (slice_get homes r)

-- the regions of these numbers share a point
abbrev pub Meet : List Region → ℕ → ℕ → Type 0
Meet rs a b = (i : ℕ) × Contains (points_of rs a) i × Contains (points_of rs b) i

-- after the first k of the order; bit g of an instruction's mask is the home 9 + g. A region whose gap
-- is the greatest number saves nothing
pub record IsGreedy (rs : List Region) (gaps order : List ℕ) (homes : List (Option ℕ)) (used : List ℕ) (k : ℕ) : Type 0 where
  pub seen : (i g : ℕ) → g < 12 → bit_at (slice_index used i) g ≡ 1 → (m : ℕ) × (m < k) × (home_of homes (slice_index order m) ≡ Some (9 + g)) × Contains (points_of rs (slice_index order m)) i
  pub shown : (m i g : ℕ) → m < k → home_of homes (slice_index order m) ≡ Some (9 + g) → Contains (points_of rs (slice_index order m)) i → bit_at (slice_index used i) g ≡ 1
  pub range : (m h : ℕ) → m < k → home_of homes (slice_index order m) ≡ Some h → (9 ≤ h) × (h ≤ 20)
  pub apart : (m p h : ℕ) → m < p → p < k → Meet rs (slice_index order m) (slice_index order p) → home_of homes (slice_index order m) ≡ Some h → home_of homes (slice_index order p) ≢ Some h
  pub tight : (m g : ℕ) → m < k → slice_index gaps m < 2 ^ 64 - 1 → home_of homes (slice_index order m) ≡ None → g < 12 →
      (p : ℕ) × (p < m) × Meet rs (slice_index order p) (slice_index order m) × (home_of homes (slice_index order p) ≡ Some (9 + g))

-- the points of all regions are below n
unfoldable pub AreWithin : ℕ → List Region → Type 0
AreWithin n rs = (r i : ℕ) → Contains (points_of rs r) i → i < n

-- different numbers below n
pub record AreOrdered (n : ℕ) (order : List ℕ) : Type 0 where
  pub within : (m : ℕ) → m < length order → slice_index order m < n
  pub distinct : (m p : ℕ) → m < p → p < length order → slice_index order m ≢ slice_index order p
