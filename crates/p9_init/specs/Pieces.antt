-- What the pieces of an object's data hold: the bytes and addresses of its first content.
use Rattle.std.specs.Prelude.{ℕ, ◌≡◌, List, [], ◌∷◌, ◌++◌, map, flat_map, slice_get}
use Rattle.p9_abs.specs.declared.modules.DataPiece.{DataPiece}
use Rattle.p9_abs.specs.declared.modules.DataPiece.TheVariants.{Raw, Address}
use Rattle.p9_lang.specs.Symbols.{Symbol}
use Rattle.p9_cmean.specs.Cells.{Cell, Byte}
use Rattle.p9_cmean.specs.FirstContents.{address_cells}
use Rattle.p9_cmean.specs.Union.{Union}
use Rattle.p9_tree.specs.Contents.{first_pointer}
use Rattle.p9_init.specs.declared.cell.InitCell.{InitCell}
use Rattle.p9_init.specs.Cells.{cells_of}

-- in the module with this number and these symbols
abbrev pub piece_cells : Union → (owner : ℕ) → List Symbol → DataPiece → List Cell
piece_cells union owner symbols (Raw bytes) = map Byte bytes
piece_cells union owner symbols (Address symbol offset) = address_cells (first_pointer union owner (slice_get symbols symbol) offset)

abbrev pub pieces_cells : Union → (owner : ℕ) → List Symbol → List DataPiece → List Cell
pieces_cells union owner symbols pieces = flat_map (piece_cells union owner symbols) pieces

-- in every module of every program
abbrev pub MeanCells : List DataPiece → List InitCell → Type 0
MeanCells pieces cells = (union : Union) (owner : ℕ) (symbols : List Symbol) → pieces_cells union owner symbols pieces ≡ cells_of union owner symbols cells

abbrev pub with_raw : List DataPiece → (raw : List ℕ) → List DataPiece
with_raw pieces [] = pieces
with_raw pieces (b ∷ bs) = pieces ++ Raw (b ∷ bs) ∷ []
