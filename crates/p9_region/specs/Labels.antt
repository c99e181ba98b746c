-- Classes of what edges join, each known by its least member: `AreClasses`.
use Rattle.std.specs.Prelude.{ℕ, ◌≡◌, ◌⊎◌, ◌≤◌, ◌<◌, Bool, true, false, Some, List, [], ◌∷◌, length, slice_get, slice_index, slice_set, sum}
use Rattle.p9_region.specs.declared.classes.Edge.{Edge}

unfoldable pub AreWithinNumber : List Edge → ℕ → Type 0
AreWithinNumber edges n = (k : ℕ) (e : Edge) → slice_get edges k ≡ Some e → (e.from < n) × (e.to < n)

abbrev pub AreLinked : List Edge → ℕ → ℕ → Type 0
AreLinked edges i j = (k : ℕ) × (e : Edge) × (slice_get edges k ≡ Some e) × (((e.from ≡ i) × (e.to ≡ j)) ⊎ ((e.from ≡ j) × (e.to ≡ i)))

abbrev pub IsWayAlong : List Edge → ℕ → ℕ → List ℕ → Type 0
IsWayAlong edges i k [] = i ≡ k
IsWayAlong edges i k (j ∷ js) = AreLinked edges i j × IsWayAlong edges j k js

abbrev pub IsWay : List Edge → ℕ → ℕ → Type 0
IsWay edges i k = (path : List ℕ) × IsWayAlong edges i k path

-- each label is of the class and no greater
unfoldable pub AreLabels : List Edge → List ℕ → Type 0
AreLabels edges labels = (i : ℕ) → i < length labels → IsWay edges i (slice_index labels i) × (slice_index labels i ≤ i)

-- the two ends of the first n edges have one label
unfoldable pub AreEqual : List Edge → List ℕ → ℕ → Type 0
AreEqual edges labels n = (k : ℕ) (e : Edge) → k < n → slice_get edges k ≡ Some e → slice_index labels e.from ≡ slice_index labels e.to

pub record AreClasses (edges : List Edge) (n : ℕ) (labels : List ℕ) : Type 0 where
  pub all : length labels ≡ n
  pub member : (i : ℕ) → i < n → IsWay edges i (slice_index labels i)
  pub low : (i : ℕ) → i < n → slice_index labels i ≤ i
  pub one : (i j : ℕ) → IsWay edges i j → slice_index labels i ≡ slice_index labels j

pub record IsJoint (e : Edge) (labels after : List ℕ) : Type 0 where
  pub same : after ≡ labels
  pub equal : slice_index labels e.from ≡ slice_index labels e.to

-- one end got the other's lesser label
abbrev pub IsSunk : Edge → List ℕ → List ℕ → Type 0
IsSunk e labels after =
    ((slice_index labels e.from < slice_index labels e.to) × (after ≡ slice_set labels e.to (slice_index labels e.from)))
    ⊎ ((slice_index labels e.to < slice_index labels e.from) × (after ≡ slice_set labels e.from (slice_index labels e.to)))

pub record IsMerging (edges : List Edge) (first labels : List ℕ) (n : ℕ) (changed : Bool) : Type 0 where
  pub same : length labels ≡ length first
  pub labelled : AreLabels edges labels
  pub least : sum labels ≤ sum first
  pub less : changed ≡ true → sum labels < sum first
  pub equal : changed ≡ false → AreEqual edges labels n
