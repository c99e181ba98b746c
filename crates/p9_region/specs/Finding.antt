-- Targets of control among points (`IsPlace`, `IsTarget`), and the regions that an automatic adds
-- (`AddsRegions`, `AreRegionsBelow`).
use Rattle.std.specs.Prelude.{ℕ, ◌+◌, ◌≡◌, ◌<◌, Bool, true, false, Option, Some, None, List, [], ◌∷◌, ◌++◌, length, slice_get, slice_index, All, AllPairs, Contains, if◌then◌else◌}
use Rattle.p9_abs.specs.declared.instructions.AFunction.{AFunction}
use Rattle.p9_abs.specs.declared.regions.Region.{Region}
use Rattle.p9_abs.specs.Automatics.{is_candidate}
use Rattle.p9_abs.specs.Regions.{IsPoint, IsRegion, ComesBefore}
use Rattle.p9_region.specs.declared.steps.Step.{Step}
use Rattle.p9_region.specs.declared.classes.Edge.{Edge}
use Rattle.p9_region.specs.Labels.{AreClasses}
use Rattle.p9_region.specs.Picking.{picked, live_bit, point_bit, AreEdges, groups}

-- the number of a point
pub record IsPlace (points : List ℕ) (i : ℕ) (found : Option ℕ) : Type 0 where
  pub some : (k : ℕ) → found ≡ Some k → (k < length points) × (slice_index points k ≡ i)
  pub every : (k : ℕ) → k < length points → slice_index points k ≡ i → found ≡ Some k

-- the number of the point that control goes on to, where v is live there
pub record IsTarget (points bits : List ℕ) (width v : ℕ) (to found : Option ℕ) : Type 0 where
  pub some : (k : ℕ) → found ≡ Some k → (k < length points) × (live_bit bits width v (slice_index points k) ≡ true) × (to ≡ Some (slice_index points k))
  pub every : (k : ℕ) → k < length points → to ≡ Some (slice_index points k) → live_bit bits width v (slice_index points k) ≡ true → found ≡ Some k

abbrev pub successor : Step → ℕ → Option ℕ
successor s i = if s.next then Some (i + 1) else None

abbrev pub edge_list : ℕ → Option ℕ → List Edge
edge_list from None = []
edge_list from (Some to) = record { from = from; to = to } ∷ []

abbrev pub points_in : List Step → List ℕ → ℕ → ℕ → List ℕ
points_in steps bits width v = picked (point_bit steps bits width v) (length steps)

-- the regions of v come behind those of earlier automatics
pub record AddsRegions (steps : List Step) (bits : List ℕ) (width v : ℕ) (old new : List Region) : Type 0 where
  pub edges : List Edge
  pub labels : List ℕ
  pub joined : AreEdges steps bits width v (points_in steps bits width v) (length (points_in steps bits width v)) edges
  pub classes : AreClasses edges (length (points_in steps bits width v)) labels
  pub added : new ≡ old ++ groups v (points_in steps bits width v) labels (length (points_in steps bits width v))

abbrev pub AddsIf : Bool → List Step → List ℕ → ℕ → ℕ → List Region → List Region → Type 0
AddsIf true steps bits width v old new = AddsRegions steps bits width v old new
AddsIf false steps bits width v old new = new ≡ old

-- the regions of the automatics below n
pub record AreRegionsBelow (f : AFunction) (n : ℕ) (rs : List Region) : Type 0 where
  pub each : All (IsRegion f) rs
  pub below : All (λ r. r.auto < n) rs
  pub ordered : AllPairs ComesBefore rs
  pub every : (v i : ℕ) → v < n → is_candidate f v ≡ true → IsPoint f v i → (k : ℕ) × (r : Region) × (slice_get rs k ≡ Some r) × (r.auto ≡ v) × Contains r.points i
