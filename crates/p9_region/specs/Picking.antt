-- Numbers that pass a test (`picked`), where control goes on from an instruction (`step_of`), and
-- the points and edges of an automatic (`ArePoints`, `AreEdges`).
use Rattle.std.specs.Prelude.{ℕ, zero, suc, ◌+◌, ◌*◌, ◌/◌, ◌%◌, ◌==◌, ◌&&◌, ◌||◌, ◌≡◌, ◌⊎◌, ◌<◌, Bool, true, false, not, Option, Some, None, List, [], ◌∷◌, ◌++◌, length, slice_get, slice_index, map, AllPairs, Contains, if◌then◌else◌}
use Rattle.std.specs.Int.{bit_at}
use Rattle.p9_abs.specs.declared.instructions.AFunction.{AFunction}
use Rattle.p9_abs.specs.declared.forms.Form.{Form}
use Rattle.p9_abs.specs.declared.regions.Region.{Region}
use Rattle.p9_abs.specs.Automatics.{falls, calls_in}
use Rattle.p9_abs.specs.Regions.{IsPoint}
use Rattle.p9_flow.specs.Acts.{jump_of, written_of}
use Rattle.p9_region.specs.declared.steps.Step.{Step}
use Rattle.p9_region.specs.declared.classes.Edge.{Edge}

-- the numbers below n that pass, in order
abbrev pub picked : (ℕ → Bool) → ℕ → List ℕ
picked p zero = []
picked p (suc n) = if p n then picked p n ++ n ∷ [] else picked p n

-- Steps

abbrev pub step_of : Option Form → Step
step_of None = record { next = false; jump = None; written = None }
step_of (Some form) = record { next = falls form && not (calls_in form); jump = jump_of form; written = written_of form }

-- control goes on to j, and the instruction is no call
abbrev pub GoesOn : Step → ℕ → ℕ → Type 0
GoesOn s i j = ((s.next ≡ true) × (j ≡ i + 1)) ⊎ (s.jump ≡ Some j)

abbrev pub is_it : ℕ → Option ℕ → Bool
is_it v None = false
is_it v (Some w) = w == v

-- the bit of v in row i
abbrev pub live_bit : List ℕ → ℕ → ℕ → ℕ → Bool
live_bit bits width v i = bit_at (slice_index bits (i * width + v / 64)) (v % 64) == 1

abbrev pub written_in : ℕ → Option Step → Bool
written_in v None = false
written_in v (Some s) = is_it v s.written

abbrev pub point_bit : List Step → List ℕ → ℕ → ℕ → ℕ → Bool
point_bit steps bits width v i = live_bit bits width v i || written_in v (slice_get steps i)

-- a point of one of 64 automatics
abbrev pub is_in_column : ℕ → Option ℕ → Bool
is_in_column word None = false
is_in_column word (Some w) = w / 64 == word

abbrev pub column_written : ℕ → Option Step → Bool
column_written word None = false
column_written word (Some s) = is_in_column word s.written

abbrev pub column_bit : List Step → List ℕ → ℕ → ℕ → ℕ → Bool
column_bit steps bits width word i = not (slice_index bits (i * width + word) == 0) || column_written word (slice_get steps i)

-- Points and edges of v

pub record ArePoints (f : AFunction) (v : ℕ) (points : List ℕ) : Type 0 where
  pub rising : AllPairs (λ i j. i < j) points
  pub each : (i : ℕ) → Contains points i → IsPoint f v i
  pub every : (i : ℕ) → IsPoint f v i → Contains points i

-- from the k-th point control goes on to the m-th, where v is live
abbrev pub AreAdjacent : List Step → List ℕ → ℕ → ℕ → List ℕ → ℕ → ℕ → Type 0
AreAdjacent steps bits width v points k m =
    (s : Step) × (slice_get steps (slice_index points k) ≡ Some s) × GoesOn s (slice_index points k) (slice_index points m) × (live_bit bits width v (slice_index points m) ≡ true)

-- the edges of the first n points
pub record AreEdges (steps : List Step) (bits : List ℕ) (width v : ℕ) (points : List ℕ) (n : ℕ) (edges : List Edge) : Type 0 where
  pub each : (x : ℕ) (e : Edge) → slice_get edges x ≡ Some e → (e.from < length points) × (e.to < length points) × AreAdjacent steps bits width v points e.from e.to
  pub every : (k m : ℕ) → k < n → m < length points → AreAdjacent steps bits width v points k m → (x : ℕ) × (e : Edge) × (slice_get edges x ≡ Some e) × (e.from ≡ k) × (e.to ≡ m)

-- Groups of points by labels

abbrev pub is_root : List ℕ → ℕ → Bool
is_root labels r = slice_index labels r == r

abbrev pub has_label : List ℕ → ℕ → ℕ → Bool
has_label labels r k = slice_index labels k == r

abbrev pub members : List ℕ → List ℕ → ℕ → ℕ → List ℕ
members points labels r n = map (slice_index points) (picked (has_label labels r) n)

abbrev pub region_at : ℕ → List ℕ → List ℕ → ℕ → Region
region_at v points labels r = record { auto = v; points = members points labels r (length points) }

abbrev pub groups : ℕ → List ℕ → List ℕ → ℕ → List Region
groups v points labels n = map (region_at v points labels) (picked (is_root labels) n)
