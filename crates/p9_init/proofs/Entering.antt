-- Entries one after the other, and the whole image.
use Rattle.std.proofs.Common.{ℕ, zero, suc, ◌≡◌, List, [], ◌∷◌, length, map, replicate, refl, sym, ap, ◌∙◌, subst, All, Err, Some}
use Rattle.std.proofs.lemmas.List.Elements.{All-head, All-tail}
use Rattle.std.proofs.lemmas.Option.{none-some}
use Rattle.std.specs.Prelude.{slice_get}
use Rattle.p9_abs.specs.declared.modules.DataPiece.{DataPiece}
use Rattle.p9_lang.specs.Initialisers.{BrokenItem}
use Rattle.p9_lang.specs.Layout.{size_of}
use Rattle.p9_lang.specs.Symbols.{Symbol}
use Rattle.p9_lang.specs.Types.{TypeTree, Tags}
use Rattle.p9_cmean.specs.Cells as cells
use Rattle.p9_cmean.specs.Cells.{Cell}
use Rattle.p9_cmean.specs.Union.{Union}
use Rattle.p9_tree.specs.declared.module.TEntry.{TEntry}
use Rattle.p9_tree.specs.Contents.{entry_write, with_write, writes_of, with_writes}
use Rattle.p9_tree.specs.Modules.{entry_of}
use Rattle.p9_init.specs.declared.cell.InitCell.{InitCell}
use Rattle.p9_init.specs.declared.cell.InitCell.TheVariants.{Byte, Part}
use Rattle.p9_init.specs.Cells.{cells_of, ArePlaced}
use Rattle.p9_init.specs.Contents.{IsImage, told_write}
use Rattle.p9_init.specs.Images.{EntryInside, EntryWritten, AllWritten}
use Rattle.p9_init.specs.Pieces.{MeanCells}

-- what is so before the entries that are left
pub record Ahead (entries : List TEntry) (initial : List InitCell) (rest : List TEntry) (now : List InitCell) : Type 0 where
  pub count : length now ≡ length initial
  pub placed : ArePlaced now
  pub inside : All (λ (entry : TEntry). EntryInside entry (length initial)) rest
  pub goes : (new : List InitCell) → AllWritten rest now new → AllWritten entries initial new
  pub stops : (b : BrokenItem) → writes_of (map entry_of rest) ≡ Err b → writes_of (map entry_of entries) ≡ Err b

pub ahead_first : (entries : List TEntry) (initial : List InitCell) → ArePlaced initial → All (λ (entry : TEntry). EntryInside entry (length initial)) entries → Ahead entries initial entries initial
ahead_first entries initial placed inside = record { count = refl; placed = placed; inside = inside; goes = λ new w. w; stops = λ b e. e }

one_more : (entry : TEntry) (rest : List TEntry) (old now new : List InitCell) → EntryWritten entry old now → AllWritten rest now new → AllWritten (entry ∷ rest) old new
one_more entry rest old now new e w = record {
  writes = told_write entry e.content ∷ w.writes;
  are = λ i. with_write (e.writes i) (w.are i);
  count = w.count ∙ (e.written []).count;
  placed = w.placed;
  means = λ tags union owner symbols.
      w.means tags union owner symbols ∙ ap (with_writes union owner symbols tags w.writes) ((e.written tags).means union owner symbols);
}

pub ahead_next : (entries : List TEntry) (initial : List InitCell) (entry : TEntry) (rest : List TEntry) (old now : List InitCell) → Ahead entries initial (entry ∷ rest) old → EntryWritten entry old now → Ahead entries initial rest now
ahead_next entries initial entry rest old now a e = record {
  count = (e.written []).count ∙ a.count;
  placed = (e.written []).placed;
  inside = All-tail (λ (x : TEntry). EntryInside x (length initial)) entry rest a.inside;
  goes = λ new w. a.goes new (one_more entry rest old now new e w);
  stops = λ b f. a.stops b (λ i. with_write (e.writes i) (f i));
}

pub ahead_step : (entries : List TEntry) (initial : List InitCell) (entry : TEntry) (rest next : List TEntry) (old now : List InitCell) → rest ≡ entry ∷ next → Ahead entries initial rest old → EntryWritten entry old now → Ahead entries initial next now
ahead_step entries initial entry rest next old now is a e = ahead_next entries initial entry next old now (subst (λ (l : List TEntry). Ahead entries initial l old) is a) e

pub ahead_end : (entries : List TEntry) (initial now : List InitCell) → Ahead entries initial [] now → AllWritten entries initial now
ahead_end entries initial now a = a.goes now (record { writes = []; are = refl; count = refl; placed = a.placed; means = λ tags union owner symbols. refl })

pub ahead_inside : (entries : List TEntry) (initial : List InitCell) (entry : TEntry) (rest : List TEntry) (old : List InitCell) → Ahead entries initial (entry ∷ rest) old → EntryInside entry (length old)
ahead_inside entries initial entry rest old a = subst (EntryInside entry) (sym a.count) (All-head (λ (x : TEntry). EntryInside x (length initial)) entry rest a.inside)

pub ahead_refused : (entries : List TEntry) (initial : List InitCell) (entry : TEntry) (rest : List TEntry) (old : List InitCell) (b : BrokenItem) → Ahead entries initial (entry ∷ rest) old → entry_write (entry_of entry) ≡ Err b → writes_of (map entry_of entries) ≡ Err b
ahead_refused entries initial entry rest old b a e = a.stops b (λ i. with_write (e i) (writes_of (map entry_of rest)))

-- zeros

zero_cells : (union : Union) (owner : ℕ) (symbols : List Symbol) (n : ℕ) → cells_of union owner symbols (replicate n (Byte 0)) ≡ replicate n (cells.Byte 0)
zero_cells union owner symbols zero = refl
zero_cells union owner symbols (suc n) = ap (λ l. cells.Byte 0 ∷ l) (zero_cells union owner symbols n)

byte_part : (part symbol offset : ℕ) → Some (Byte 0) ≡ Some (Part part symbol offset) → ⊥
byte_part part symbol offset e = cc

zeros_have_none : (n i part symbol offset : ℕ) → slice_get (replicate n (Byte 0)) i ≡ Some (Part part symbol offset) → ⊥
zeros_have_none zero i part symbol offset e = none-some (Part part symbol offset) e
zeros_have_none (suc n) zero part symbol offset e = byte_part part symbol offset e
zeros_have_none (suc n) (suc i) part symbol offset e = zeros_have_none n i part symbol offset e

pub zeros_placed : (n : ℕ) → ArePlaced (replicate n (Byte 0))
zeros_placed n i part symbol offset e = absurd (zeros_have_none n i part symbol offset e)

pub imaged : (tags : Tags) (type : TypeTree) (entries : List TEntry) (size : ℕ) (new : List InitCell) (pieces : List DataPiece) → size ≡ size_of tags type →
    AllWritten entries (replicate size (Byte 0)) new → MeanCells pieces new → IsImage tags type (map entry_of entries) pieces
imaged tags type entries size new pieces is w means = record {
  writes = w.writes;
  are = w.are;
  hold = λ union owner symbols.
      means union owner symbols
      ∙ (w.means tags union owner symbols
      ∙ ap (with_writes union owner symbols tags w.writes) (zero_cells union owner symbols size ∙ ap (λ n. replicate n (cells.Byte 0)) is));
}
