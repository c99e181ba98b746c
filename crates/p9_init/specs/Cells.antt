-- The cells of an object as they are made, and entries that are written into them: as the cells of an
-- object, but that an address is that of a symbol by its number.
use Rattle.std.specs.Prelude.{ℕ, suc, ◌+◌, ◌≡◌, ◌<◌, if◌then◌else◌, List, [], ◌∷◌, ◌++◌, length, take, drop, slice_get, map, Option, Some, None}
use Rattle.p9_lang.specs.Symbols.{Symbol}
use Rattle.p9_cmean.specs.Cells as cells
use Rattle.p9_cmean.specs.Cells.{Cell, Pointer}
use Rattle.p9_cmean.specs.FirstContents.{is_broken}
use Rattle.p9_cmean.specs.Union.{Union}
use Rattle.p9_tree.specs.Contents.{first_pointer}
use Rattle.p9_init.specs.declared.cell.InitCell.{InitCell}
use Rattle.p9_init.specs.declared.cell.InitCell.TheVariants.{Byte, Part}

-- WHAT CELLS STAND FOR, in the module with this number and these symbols

-- a symbol that isn't there has no address
abbrev pub part_cell : (part : ℕ) → Option Pointer → Cell
part_cell part None = cells.Byte 0
part_cell part (Some pointer) = cells.Part part pointer

abbrev pub cell_of : Union → (owner : ℕ) → List Symbol → InitCell → Cell
cell_of union owner symbols (Byte n) = cells.Byte n
cell_of union owner symbols (Part part symbol offset) = part_cell part (first_pointer union owner (slice_get symbols symbol) offset)

abbrev pub cells_of : Union → (owner : ℕ) → List Symbol → List InitCell → List Cell
cells_of union owner symbols list = map (cell_of union owner symbols) list

-- ENTRIES

abbrev pub broken_cell : (start end at : ℕ) → InitCell → InitCell
broken_cell start end at (Byte n) = Byte n
broken_cell start end at (Part part symbol offset) = if is_broken start end at part then Byte 0 else Part part symbol offset

abbrev pub broken_from : (start end at : ℕ) → List InitCell → List InitCell
broken_from start end at [] = []
broken_from start end at (cell ∷ rest) = broken_cell start end at cell ∷ broken_from start end (suc at) rest

abbrev pub with_entry : (start : ℕ) → (new : List InitCell) → List InitCell → List InitCell
with_entry start new list =
    let old = broken_from start (start + length new) 0 list in
    take start old ++ (new ++ drop (start + length new) old)

-- ADDRESSES ARE WHOLE: each part stands in its place among the four of its address

abbrev pub HasPart : List InitCell → (base part symbol offset : ℕ) → Type 0
HasPart list base part symbol offset = slice_get list (base + part) ≡ Some (Part part symbol offset)

pub record IsPlaced (list : List InitCell) (i part symbol offset : ℕ) : Type 0 where
  pub base : ℕ
  pub at : i ≡ base + part
  pub few : part < 4
  pub whole : (other : ℕ) → other < 4 → HasPart list base other symbol offset

abbrev pub ArePlaced : List InitCell → Type 0
ArePlaced list = (i part symbol offset : ℕ) → slice_get list i ≡ Some (Part part symbol offset) → IsPlaced list i part symbol offset
