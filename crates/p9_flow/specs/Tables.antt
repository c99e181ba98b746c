-- Columns that become rows: `AreColumns`, `rows_below`, `AreRows`.
use Rattle.std.specs.Prelude.{ℕ, zero, suc, ◌+◌, ◌*◌, ◌++◌, ◌≡◌, ◌<◌, ◌↔◌, List, [], length, map, slice_index, slice_index_or}
use Rattle.std.specs.Int.{bit_at}
use Rattle.p9_flow.specs.declared.acts.Act.{Act}
use Rattle.p9_flow.specs.Columns.{IsColumn, IsLive}

-- one for each word, in order
unfoldable pub AreColumns : List Act → List (List ℕ) → Type 0
AreColumns acts columns = (word : ℕ) → word < length columns → IsColumn acts word (slice_index_or columns word [])

-- the first so many rows, one after the other
unfoldable pub rows_below : List (List ℕ) → ℕ → List ℕ
rows_below columns zero = []
rows_below columns (suc i) = rows_below columns i ++ map (λ column. slice_index column i) columns

-- a row of so many words for each instruction
pub record AreRows (acts : List Act) (width : ℕ) (bits : List ℕ) : Type 0 where
  pub count : length bits ≡ length acts * width
  pub live : (i w b : ℕ) → i < length acts → w < width → b < 64 → (bit_at (slice_index bits (i * width + w)) b ≡ 1) ↔ IsLive acts (64 * w + b) i
