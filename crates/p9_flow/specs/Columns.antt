-- Liveness over what matters of instructions, and columns: a word of 64 automatics for each
-- instruction.
use Rattle.std.specs.Prelude.{ℕ, ◌+◌, ◌-◌, ◌*◌, ◌/◌, ◌%◌, ◌^◌, ◌==◌, ◌≡◌, ◌≢◌, ◌⊎◌, ◌≤◌, ◌<◌, ◌↔◌, Bool, true, false, Option, Some, None, List, [], ◌∷◌, length, slice_get, slice_index, slice_index_or, sum_by, All, Contains, if◌then◌else◌, bit_or, bit_and, slice_set}
use Rattle.std.specs.Int.{bit_at, bit_not, w64}
use Rattle.p9_flow.specs.declared.acts.Act.{Act}

-- control may go from instruction i, which does this, to j
abbrev pub GoesTo : Act → ℕ → ℕ → Type 0
GoesTo a i j = ((a.next ≡ true) × (j ≡ i + 1)) ⊎ (a.jump ≡ Some j)

-- v is read at the end of this way from i, and not written before
abbrev pub IsReadAlong : List Act → ℕ → ℕ → List ℕ → Type 0
IsReadAlong acts v i [] = (a : Act) × (slice_get acts i ≡ Some a) × (a.read ≡ Some v)
IsReadAlong acts v i (j ∷ js) = ((a : Act) × (slice_get acts i ≡ Some a) × (a.write ≢ Some v) × GoesTo a i j) × IsReadAlong acts v j js

abbrev pub IsLive : List Act → ℕ → ℕ → Type 0
IsLive acts v i = (way : List ℕ) × IsReadAlong acts v i way

-- What a row needs

abbrev pub before_write : Option ℕ → ℕ → ℕ → ℕ
before_write None word row = row
before_write (Some v) word row = if v / 64 == word then bit_and row (bit_not w64 (1 * 2 ^ (v % 64) % 2 ^ 64)) else row

abbrev pub after_read : Option ℕ → ℕ → ℕ → ℕ
after_read None word row = row
after_read (Some v) word row = if v / 64 == word then bit_or row (1 * 2 ^ (v % 64) % 2 ^ 64) else row

abbrev pub jump_row : Option ℕ → List ℕ → ℕ
jump_row None column = 0
jump_row (Some l) column = slice_index column l

-- the bits that are live at i because of what it does and of what is live behind it
unfoldable pub needed : Act → ℕ → List ℕ → ℕ → ℕ
needed a i column word = after_read a.read word (before_write a.write word (bit_or (if a.next then slice_index column (i + 1) else 0) (jump_row a.jump column)))

-- Columns

-- each bit that is set is of an automatic that is live
unfoldable pub IsSound : List Act → ℕ → List ℕ → Type 0
IsSound acts word column = (i b : ℕ) → b < 64 → bit_at (slice_index column i) b ≡ 1 → IsLive acts (64 * word + b) i

-- row i has what it needs
unfoldable pub HasNeeded : List Act → ℕ → List ℕ → ℕ → Type 0
HasNeeded acts word column i = (a : Act) → slice_get acts i ≡ Some a → bit_or (slice_index column i) (needed a i column word) ≡ slice_index column i

unfoldable pub IsClosed : List Act → ℕ → List ℕ → Type 0
IsClosed acts word column = (i : ℕ) → i < length acts → HasNeeded acts word column i

-- how far the rows are from all ones
unfoldable pub slack : List ℕ → ℕ
slack column = sum_by (λ x. 2 ^ 64 - 1 - x) column

-- row i got what it needs, which it hadn't
pub record IsRaised (a : Act) (i : ℕ) (column : List ℕ) (word : ℕ) (after : List ℕ) : Type 0 where
  pub set : after ≡ slice_set column i (bit_or (slice_index column i) (needed a i column word))
  pub other : bit_or (slice_index column i) (needed a i column word) ≢ slice_index column i
  pub room : bit_or (slice_index column i) (needed a i column word) < 2 ^ 64

-- of a pass over the rows in an order, after the first k
pub record IsVisited (acts : List Act) (order : List ℕ) (word : ℕ) (first column : List ℕ) (k : ℕ) (changed : Bool) : Type 0 where
  pub same : length column ≡ length acts
  pub sound : IsSound acts word column
  pub least : slack column ≤ slack first
  pub less : changed ≡ true → slack column < slack first
  pub kept : changed ≡ false → (m : ℕ) → m < k → HasNeeded acts word column (slice_index order m)

-- the numbers below n, each at least once
pub record IsOrder (n : ℕ) (order : List ℕ) : Type 0 where
  pub below : All (λ i. i < n) order
  pub every : (i : ℕ) → i < n → Contains order i

-- what is marked is in the order
unfoldable pub AreNamed : List Bool → List ℕ → Type 0
AreNamed placed order = (k : ℕ) → slice_index_or placed k false ≡ true → Contains order k

-- the bits of this word's automatics that are live
unfoldable pub IsColumn : List Act → ℕ → List ℕ → Type 0
IsColumn acts word column = (length column ≡ length acts) × ((i b : ℕ) → i < length acts → b < 64 → (bit_at (slice_index column i) b ≡ 1) ↔ IsLive acts (64 * word + b) i)
