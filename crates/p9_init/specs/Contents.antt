-- What the program knows of an entry, as plain data; and what an image is.
use Rattle.std.specs.Prelude.{ℕ, ◌≡◌, ◌≤◌, ◌+◌, ◌⊎◌, IsTrue, List, length, Option, Some, None, IsSomeAnd, Ok}
use Rattle.p9_abs.specs.declared.modules.DataPiece.{DataPiece}
use Rattle.p9_lang.specs.Conversions.{is_pointer}
use Rattle.p9_lang.specs.Initialisers.{BrokenItem, NotConstant, TooManyItems}
use Rattle.p9_lang.specs.Layout.{layout, size_of, size_limit}
use Rattle.p9_lang.specs.Symbols.{Symbol}
use Rattle.p9_lang.specs.Types.{TypeTree, Tags, type_of}
use Rattle.p9_cmean.specs.FirstContents.{with_entry}
use Rattle.p9_cmean.specs.Union.{Union}
use Rattle.p9_tree.specs.declared.module.TEntry.{TEntry}
use Rattle.p9_tree.specs.Contents as contents
use Rattle.p9_tree.specs.Contents.{content_cells, writes_of, first_cells}
use Rattle.p9_tree.specs.Modules.{Entry}
use Rattle.p9_init.specs.declared.cell.InitCell.{InitCell}
use Rattle.p9_init.specs.declared.content.Content.{Content}
use Rattle.p9_init.specs.declared.content.Content.TheVariants.{Word, AddressOf}
use Rattle.p9_init.specs.declared.fault.InitFault.{InitFault}
use Rattle.p9_init.specs.declared.fault.InitFault.TheVariants as fault
use Rattle.p9_init.specs.Cells.{cells_of, ArePlaced}
use Rattle.p9_init.specs.Pieces.{pieces_cells}

abbrev pub told : Content → contents.Content
told (Word word) = contents.Word word
told (AddressOf symbol offset) = contents.AddressOf symbol offset

abbrev pub told_content : Option Content → Option contents.Content
told_content None = None
told_content (Some content) = Some (told content)

abbrev pub told_write : TEntry → Content → contents.Write
told_write entry content = record { offset = entry.offset; type = type_of entry.ty; content = told content }

-- only a pointer holds an address
abbrev pub FitsType : TypeTree → Content → Type 0
FitsType type (Word word) = Unit {0}
FitsType type (AddressOf symbol offset) = IsTrue (is_pointer type)

-- scalars have 1, 2 or 4 bytes
abbrev pub IsWidth : ℕ → Type 0
IsWidth size = (size ≡ 1) ⊎ ((size ≡ 2) ⊎ (size ≡ 4))

-- a scalar of a type ends within so many bytes; its size asks for no structure
abbrev pub IsWithin : (start : ℕ) → TypeTree → (count : ℕ) → Type 0
IsWithin start type count = (tags : Tags) → start + size_of tags type ≤ count

-- a content of so many bytes is written over the cells from `start` on, and addresses stay whole
pub record IsWritten (start size : ℕ) (content : Content) (old new : List InitCell) : Type 0 where
  pub count : length new ≡ length old
  pub placed : ArePlaced new
  pub means : (union : Union) (owner : ℕ) (symbols : List Symbol) →
      cells_of union owner symbols new ≡ with_entry start (content_cells union owner symbols size (told content)) (cells_of union owner symbols old)

-- want of memory is no item's fault; the number is of no matter there
abbrev pub broken_item : InitFault → BrokenItem
broken_item (fault.NotConstant node) = record { number = node; rule = NotConstant }
broken_item (fault.TooManyItems node) = record { number = node; rule = TooManyItems }
broken_item fault.Memory = record { number = 0; rule = NotConstant }

-- an object of this type has a size, which is within the limit
abbrev pub HasSize : Tags → TypeTree → Type 0
HasSize tags type = IsSomeAnd (layout tags type) (λ extent. extent.size ≤ size_limit)

-- the pieces hold what the entries write, in every module of every program
pub record IsImage (tags : Tags) (type : TypeTree) (entries : List Entry) (pieces : List DataPiece) : Type 0 where
  pub writes : List contents.Write
  pub are : writes_of entries ≡ Ok writes
  pub hold : (union : Union) (owner : ℕ) (symbols : List Symbol) → pieces_cells union owner symbols pieces ≡ first_cells union owner symbols tags type writes
