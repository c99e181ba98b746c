-- What is made of code, sizes of automatics, regions and homes: `IsMade`.
use Rattle.std.specs.Prelude.{ℕ, ◌+◌, ◌≡◌, ◌<◌, true, Option, List, ◌++◌, length, slice_index}
use Rattle.p9_abs.specs.declared.instructions.Abs.{Abs}
use Rattle.p9_abs.specs.declared.instructions.TextDef.{TextDef}
use Rattle.p9_abs.specs.declared.regions.Region.{Region}
use Rattle.p9_abs.specs.Framed.{start_of}
use Rattle.p9_homes.specs.Tables.{IsTable}
use Rattle.p9_frame.specs.Sizes.{greatest_named, first_offset, offsets_from, end_from}
use Rattle.p9_frame.specs.Plans.{held, plan_of}
use Rattle.p9_frame.specs.Emitted.{moves_of, blocks_in}

abbrev pub first_of : List Abs → ℕ
first_of code = first_offset (greatest_named code)

-- a table of the homes, the starts of the blocks by it, and the moves at the entry with all blocks
pub record IsMade (code : List Abs) (sizes : List ℕ) (rs : List Region) (homes : List (Option ℕ)) (def : TextDef) : Type 0 where
  pub table : List (Option ℕ)
  pub starts : List ℕ
  pub table_is : IsTable rs homes (length rs) (length code) table
  pub starts_are : (offsets : List ℕ) (i : ℕ) → i < length code → slice_index starts i ≡ start_of (plan_of code table offsets) i
  pub frame_is : def.frame ≡ end_from (first_of code) sizes
  pub code_is : ◌≡◌ {A = List Abs} def.code (moves_of sizes (offsets_from (first_of code) sizes) (held code table true 0 12) ++ blocks_in code sizes table (offsets_from (first_of code) sizes) starts (def.frame + 4) 0 code)
