-- Entries that are written one after the other.
use Rattle.std.specs.Prelude.{ℕ, ◌≡◌, true, IsTrue, List, length, map, All, Ok}
use Rattle.p9_lang.specs.Conversions.{is_scalar}
use Rattle.p9_lang.specs.Layout.{size_of}
use Rattle.p9_lang.specs.Symbols.{Symbol}
use Rattle.p9_lang.specs.Types.{TypeTree, Tags, tags_of, type_of}
use Rattle.p9_cmean.specs.Union.{Union}
use Rattle.p9_tree.specs.declared.module.TEntry.{TEntry}
use Rattle.p9_tree.specs.declared.module.TInit.{TInit}
use Rattle.p9_tree.specs.declared.module.TModule.{TModule}
use Rattle.p9_tree.specs.declared.module.TSym.{TSym}
use Rattle.p9_tree.specs.Contents.{Write, entry_write, writes_of, with_writes}
use Rattle.p9_tree.specs.Modules.{entry_of}
use Rattle.p9_init.specs.declared.cell.InitCell.{InitCell}
use Rattle.p9_init.specs.declared.content.Content.{Content}
use Rattle.p9_init.specs.Cells.{cells_of, ArePlaced}
use Rattle.p9_init.specs.Contents.{HasSize, IsWithin, IsWritten, told_write}

-- an entry that isn't told to lie outside is a scalar within so many cells
pub record IsInside (entry : TEntry) (count : ℕ) : Type 0 where
  pub scalar : IsTrue (is_scalar (type_of entry.ty))
  pub within : IsWithin entry.offset (type_of entry.ty) count

abbrev pub EntryInside : TEntry → ℕ → Type 0
EntryInside entry count = entry.inside ≡ true → IsInside entry count

-- what an entry writes, and that it was written
pub record EntryWritten (entry : TEntry) (old new : List InitCell) : Type 0 where
  pub content : Content
  pub writes : entry_write (entry_of entry) ≡ Ok (told_write entry content)
  pub written : (tags : Tags) → IsWritten entry.offset (size_of tags (type_of entry.ty)) content old new

-- what entries write, one after the other, and that it was written
pub record AllWritten (entries : List TEntry) (old new : List InitCell) : Type 0 where
  pub writes : List Write
  pub are : writes_of (map entry_of entries) ≡ Ok writes
  pub count : length new ≡ length old
  pub placed : ArePlaced new
  pub means : (tags : Tags) (union : Union) (owner : ℕ) (symbols : List Symbol) →
      cells_of union owner symbols new ≡ with_writes union owner symbols tags writes (cells_of union owner symbols old)

-- each entry of an object of this type that isn't told to lie outside lies inside
abbrev pub LieInside : Tags → TypeTree → List TEntry → Type 0
LieInside tags type entries = All (λ (entry : TEntry). EntryInside entry (size_of tags type)) entries

-- the initialiser is one of the object that a symbol of the module names
pub record IsObjectOf (m : TModule) (symbol : TSym) (init : TInit) : Type 0 where
  pub size : HasSize (tags_of m.tags.list) (type_of symbol.ty)
  pub inside : LieInside (tags_of m.tags.list) (type_of symbol.ty) init.entries
