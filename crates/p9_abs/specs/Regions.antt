-- Live ranges of candidates as regions of points, what a register for one saves, and settled homes.
use Rattle.std.specs.Prelude.{ℕ, ◌^◌, ◌==◌, ◌&&◌, ◌||◌, ◌≡◌, ◌≢◌, ◌⊎◌, ◌≤◌, ◌<◌, min, Bool, true, false, Option, Some, None, IfSome, List, [], ◌∷◌, length, slice_get, slice_index, sum_by, All, AllPairs, Contains, if◌then◌else◌}
use Rattle.p9_abs.specs.declared.instructions.AFunction.{AFunction}
use Rattle.p9_abs.specs.declared.regions.Region.{Region}
use Rattle.p9_abs.specs.Automatics.{flows, call_at, is_candidate, reads_at, writes_at, IsLive}

-- Points

-- an instruction where v is live, or that writes it
abbrev pub IsPoint : AFunction → ℕ → ℕ → Type 0
IsPoint f v i = IsLive f v i ⊎ (writes_at f.code v i ≡ true)

-- control goes from point i, which is no call, to j, where v is live
abbrev pub Leads : AFunction → ℕ → ℕ → ℕ → Type 0
Leads f v i j = IsPoint f v i × (call_at f.code i ≡ false) × (flows f.code i j ≡ true) × IsLive f v j

-- this way of joined points leads from i to k
abbrev pub JoinedAlong : AFunction → ℕ → ℕ → List ℕ → ℕ → Type 0
JoinedAlong f v i [] k = i ≡ k
JoinedAlong f v i (j ∷ js) k = (Leads f v i j ⊎ Leads f v j i) × JoinedAlong f v j js k

abbrev pub AreJoined : AFunction → ℕ → ℕ → ℕ → Type 0
AreJoined f v i k = (way : List ℕ) × JoinedAlong f v i way k

-- Regions

-- a class of joined points of a candidate, in rising order
pub record IsRegion (f : AFunction) (r : Region) : Type 0 where
  pub candidate : is_candidate f r.auto ≡ true
  pub some : 1 ≤ length r.points
  pub rising : AllPairs (λ i j. i < j) r.points
  pub points : All (IsPoint f r.auto) r.points
  pub joined : (i j : ℕ) → Contains r.points i → Contains r.points j → AreJoined f r.auto i j
  pub whole : (i j : ℕ) → Contains r.points i → AreJoined f r.auto i j → Contains r.points j

-- by automatic, then by least point
abbrev pub ComesBefore : Region → Region → Type 0
ComesBefore a b = (a.auto < b.auto) ⊎ ((a.auto ≡ b.auto) × (slice_index a.points 0 < slice_index b.points 0))

-- all regions, each once
pub record AreRegions (f : AFunction) (rs : List Region) : Type 0 where
  pub each : All (IsRegion f) rs
  pub ordered : AllPairs ComesBefore rs
  pub every : (v i : ℕ) → is_candidate f v ≡ true → IsPoint f v i → (k : ℕ) × (r : Region) × (slice_get rs k ≡ Some r) × (r.auto ≡ v) × Contains r.points i

-- Cost

-- a read or write at a loop depth of d counts 4^d, at most 4^8
abbrev pub cost_at : AFunction → ℕ → ℕ → ℕ
cost_at f v i = if reads_at f.code v i || writes_at f.code v i then 4 ^ min (slice_index f.depth i) 8 else 0

abbrev pub cost_of : AFunction → Region → ℕ
cost_of f r = sum_by (cost_at f r.auto) r.points

-- Homes

abbrev pub AreInConflict : Region → Region → Type 0
AreInConflict a b = (i : ℕ) × Contains a.points i × Contains b.points i

-- region b, numbered j, is to choose before region a, numbered i
abbrev pub IsAhead : AFunction → ℕ → Region → ℕ → Region → Type 0
IsAhead f j b i a = (cost_of f a < cost_of f b) ⊎ ((cost_of f a ≡ cost_of f b) × (j < i))

-- R9 to R20
abbrev pub IsHome : ℕ → Type 0
IsHome h = (9 ≤ h) × (h ≤ 20)

-- one for each region, and different ones for conflicting regions
pub record AreHomes (rs : List Region) (homes : List (Option ℕ)) : Type 0 where
  pub count : length homes ≡ length rs
  pub range : All (λ home. IfSome home IsHome) homes
  pub apart : (i j h : ℕ) (a b : Region) → i ≢ j → slice_get rs i ≡ Some a → slice_get rs j ≡ Some b → AreInConflict a b → slice_get homes i ≡ Some (Some h) → slice_get homes j ≢ Some (Some h)

-- a region of some cost without a home has for each home a conflicting region ahead of it
pub record AreSettled (f : AFunction) (rs : List Region) (homes : List (Option ℕ)) : Type 0 where
  pub distinct : AreHomes rs homes
  pub tight : (i h : ℕ) (a : Region) → slice_get rs i ≡ Some a → 1 ≤ cost_of f a → slice_get homes i ≡ Some None → IsHome h → (j : ℕ) × (b : Region) × (slice_get rs j ≡ Some b) × AreInConflict a b × (slice_get homes j ≡ Some (Some h)) × IsAhead f j b i a

abbrev pub has : ℕ → List ℕ → Bool
has i [] = false
has i (j ∷ js) = (i == j) || has i js

-- the home of v at point i, where its region has one
abbrev pub home_at : List Region → List (Option ℕ) → ℕ → ℕ → Option ℕ
home_at [] homes v i = None
home_at (r ∷ rs) [] v i = None
home_at (r ∷ rs) (home ∷ homes) v i = if (r.auto == v) && has i r.points then home else home_at rs homes v i
