-- The cost of a point by the code and its depths (`cost_in`), and ranks by which regions choose
-- homes (`IsRanking`).
use Rattle.std.specs.Prelude.{ℕ, ◌+◌, ◌-◌, ◌^◌, ◌||◌, ◌≡◌, ◌≢◌, ◌<◌, min, Some, List, length, map, slice_get, slice_index, slice_index_or, if◌then◌else◌}
use Rattle.p9_abs.specs.declared.instructions.Abs.{Abs}
use Rattle.p9_abs.specs.declared.instructions.AFunction.{AFunction}
use Rattle.p9_abs.specs.declared.regions.Region.{Region}
use Rattle.p9_abs.specs.Automatics.{reads_at, writes_at}
use Rattle.p9_abs.specs.Regions.{cost_of, IsAhead}

abbrev pub cost_in : List Abs → List ℕ → ℕ → ℕ → ℕ
cost_in code depths v i = if reads_at code v i || writes_at code v i then 4 ^ min (slice_index depths i) 8 else 0

-- what the region of this number saves, counted down from the greatest number
abbrev pub RanksBy : AFunction → List Region → ℕ × ℕ → Type 0
RanksBy f rs rank = (a : Region) → slice_get rs rank.1 ≡ Some a → rank.0 + cost_of f a ≡ 2 ^ 64 - 1

-- the first n regions, in order
unfoldable pub AreRanks : AFunction → List Region → ℕ → List (ℕ × ℕ) → Type 0
AreRanks f rs n ranks = (length ranks ≡ n) × ((m : ℕ) (d : ℕ × ℕ) → m < n → ((slice_index_or ranks m d).1 ≡ m) × RanksBy f rs (slice_index_or ranks m d))

abbrev pub gaps_of : List (ℕ × ℕ) → List ℕ
gaps_of ranks = map (λ rank. rank.0) ranks

abbrev pub order_of : List (ℕ × ℕ) → List ℕ
order_of ranks = map (λ rank. rank.1) ranks

-- all regions by their numbers, each before those that are to choose after it
pub record IsRanking (f : AFunction) (rs : List Region) (ranks : List (ℕ × ℕ)) : Type 0 where
  pub ranked : (m : ℕ) (d : ℕ × ℕ) → m < length ranks → RanksBy f rs (slice_index_or ranks m d)
  pub within : (m : ℕ) (d : ℕ × ℕ) → m < length ranks → (slice_index_or ranks m d).1 < length rs
  pub every : (r : ℕ) → r < length rs → (m : ℕ) × (m < length ranks) × ((d : ℕ × ℕ) → (slice_index_or ranks m d).1 ≡ r)
  pub distinct : (m p : ℕ) (d : ℕ × ℕ) → m < p → p < length ranks → (slice_index_or ranks m d).1 ≢ (slice_index_or ranks p d).1
  pub ahead : (m p : ℕ) (d : ℕ × ℕ) (a b : Region) → p < m → m < length ranks → slice_get rs (slice_index_or ranks m d).1 ≡ Some a → slice_get rs (slice_index_or ranks p d).1 ≡ Some b →
      IsAhead f (slice_index_or ranks p d).1 b (slice_index_or ranks m d).1 a
