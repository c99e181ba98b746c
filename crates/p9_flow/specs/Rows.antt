-- Rows of bits that tell where candidates are live: `AreLiveRows`.
use Rattle.std.specs.Prelude.{ℕ, ◌+◌, ◌*◌, ◌/◌, ◌%◌, ◌≡◌, ◌<◌, ◌↔◌, true, length, slice_index}
use Rattle.std.specs.Int.{bit_at}
use Rattle.p9_abs.specs.declared.instructions.AFunction.{AFunction}
use Rattle.p9_abs.specs.Automatics.{is_candidate, IsLive}
use Rattle.p9_flow.specs.declared.rows.Rows.{Rows}

-- the least number of words that have a bit for each of so many automatics
abbrev pub words_for : ℕ → ℕ
words_for autos = (autos + 63) / 64

-- the bit for automatic v in the row of instruction i
abbrev pub bit_of : Rows → ℕ → ℕ → ℕ
bit_of rows i v = bit_at (slice_index rows.bits.items (i * rows.width + v / 64)) (v % 64)

-- a row for each instruction, with a bit for each automatic, set exactly where the automatic is a
-- candidate and live
pub record AreLiveRows (f : AFunction) (rows : Rows) : Type 0 where
  pub width : rows.width ≡ words_for (length f.autos)
  pub count : length rows.bits.items ≡ length f.code * rows.width
  pub bits : (i v : ℕ) → i < length f.code → v < 64 * rows.width → (bit_of rows i v ≡ 1) ↔ ((is_candidate f v ≡ true) × IsLive f v i)
