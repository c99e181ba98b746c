-- Bytes and addresses as entries.
use Rattle.std.proofs.Common.{ℕ, zero, suc, ◌+◌, ◌≡◌, ◌≤◌, ◌<◌, Option, Some, None, List, [], ◌∷◌, length, map, refl, sym, ap, ◌∙◌, subst, arith}
use Rattle.std.proofs.lemmas.Grind.{common_steps}
use Rattle.std.proofs.lemmas.Option.{none-some, same_Some}
use Rattle.std.specs.Prelude.{IsTrue, slice_get}
use Rattle.p9_lang.specs.Conversions.{is_pointer}
use Rattle.p9_lang.specs.Layout.{size_of}
use Rattle.p9_lang.specs.Symbols.{Symbol}
use Rattle.p9_lang.specs.Types.{TypeTree, Void, Char, UChar, Short, UShort, Int, UInt, Long, ULong, Pointer, Array, Function, Tagged, Tags}
use Rattle.p9_cmean.specs.Cells as cells
use Rattle.p9_cmean.specs.Cells.{Cell}
use Rattle.p9_cmean.specs.Access.{number_cells}
use Rattle.p9_cmean.specs.FirstContents as first
use Rattle.p9_cmean.specs.FirstContents.{address_cells}
use Rattle.p9_cmean.specs.Union.{Union}
use Rattle.p9_tree.specs.Contents.{first_pointer}
use Rattle.p9_init.specs.declared.cell.InitCell.{InitCell}
use Rattle.p9_init.specs.declared.cell.InitCell.TheVariants.{Byte, Part}
use Rattle.p9_init.specs.declared.content.Content.TheVariants.{Word, AddressOf}
use Rattle.p9_init.specs.Cells.{part_cell, cells_of, with_entry, IsPlaced, ArePlaced}
use Rattle.p9_init.specs.Contents.{IsWritten}
use Rattle.p9_init.proofs.Meaning.{entry_means, stay_placed, broken_size}

-- the entry keeps the number of cells
entry_size : (start : ℕ) (new list : List InitCell) → start + length new ≤ length list → length (with_entry start new list) ≡ length list
entry_size start new list h = (let s = broken_size start (start + length new) 0 list in grind (arith, common_steps))

-- bytes have no parts
no_part_of : (n part symbol offset : ℕ) → Some (Byte n) ≡ Some (Part part symbol offset) → ⊥
no_part_of n part symbol offset e = cc

bytes_placed : (bytes : List ℕ) (j part symbol offset : ℕ) → slice_get (map Byte bytes) j ≡ Some (Part part symbol offset) → ⊥
bytes_placed [] j part symbol offset e = none-some (Part part symbol offset) e
bytes_placed (b ∷ bs) zero part symbol offset e = no_part_of b part symbol offset e
bytes_placed (b ∷ bs) (suc j) part symbol offset e = bytes_placed bs j part symbol offset e

-- cells that have the bytes of a number are that number
pub number_written : (start size word : ℕ) (bytes : List ℕ) (old new : List InitCell) →
    ((union : Union) (owner : ℕ) (symbols : List Symbol) → cells_of union owner symbols (map Byte bytes) ≡ number_cells size word) →
    start + length (map Byte bytes) ≤ length old → ArePlaced old → new ≡ with_entry start (map Byte bytes) old → IsWritten start size (Word word) old new
number_written start size word bytes old new same within placed is =
    subst (λ (l : List InitCell). IsWritten start size (Word word) old l) (sym is) (record {
      count = entry_size start (map Byte bytes) old within;
      placed = stay_placed start (map Byte bytes) old within placed (λ j part symbol offset e. absurd (bytes_placed bytes j part symbol offset e));
      means = λ union owner symbols.
          entry_means union owner symbols start (map Byte bytes) old ∙ ap (λ (l : List Cell). first.with_entry start l (cells_of union owner symbols old)) (same union owner symbols);
    })

-- four parts are an address
abbrev pub parts_of : (symbol offset : ℕ) → List InitCell
parts_of symbol offset = Part 0 symbol offset ∷ Part 1 symbol offset ∷ Part 2 symbol offset ∷ Part 3 symbol offset ∷ []

all_parts : (symbol offset other : ℕ) → other < 4 → slice_get (parts_of symbol offset) (0 + other) ≡ Some (Part other symbol offset)
all_parts symbol offset zero h = refl
all_parts symbol offset (suc zero) h = refl
all_parts symbol offset (suc (suc zero)) h = refl
all_parts symbol offset (suc (suc (suc zero))) h = refl
all_parts symbol offset (suc (suc (suc (suc other)))) h = absurd (omega (arith, h))

parts_placed : (symbol offset j part s f : ℕ) → slice_get (parts_of symbol offset) j ≡ Some (Part part s f) → IsPlaced (parts_of symbol offset) j part s f
parts_placed symbol offset j part s f e = by j refl e
  where
    at : (k : ℕ) → k < 4 → Part k symbol offset ≡ Part part s f → IsPlaced (parts_of symbol offset) k part s f
    at k h same =
        let p : k ≡ part = cc in
        let q : symbol ≡ s = cc in
        let r : offset ≡ f = cc in
        record {
          base = 0;
          at = omega (arith, p);
          few = omega (arith, p, h);
          whole = λ other l. all_parts symbol offset other l ∙ (ap (λ (x : ℕ). Some (Part other x offset)) q ∙ ap (λ (x : ℕ). Some (Part other s x)) r);
        }

    by : (k : ℕ) → j ≡ k → slice_get (parts_of symbol offset) k ≡ Some (Part part s f) → IsPlaced (parts_of symbol offset) k part s f
    by zero d g = at 0 (omega arith) (same_Some (Part 0 symbol offset) (Part part s f) g)
    by (suc zero) d g = at 1 (omega arith) (same_Some (Part 1 symbol offset) (Part part s f) g)
    by (suc (suc zero)) d g = at 2 (omega arith) (same_Some (Part 2 symbol offset) (Part part s f) g)
    by (suc (suc (suc zero))) d g = at 3 (omega arith) (same_Some (Part 3 symbol offset) (Part part s f) g)
    by (suc (suc (suc (suc k)))) d g = absurd (none-some (Part part s f) g)

address_meant : (o : Option cells.Pointer) → part_cell 0 o ∷ part_cell 1 o ∷ part_cell 2 o ∷ part_cell 3 o ∷ [] ≡ address_cells o
address_meant None = refl
address_meant (Some pointer) = refl

pub address_written : (start size symbol offset : ℕ) (old new : List InitCell) → start + 4 ≤ length old → ArePlaced old → new ≡ with_entry start (parts_of symbol offset) old →
    IsWritten start size (AddressOf symbol offset) old new
address_written start size symbol offset old new within placed is =
    subst (λ (l : List InitCell). IsWritten start size (AddressOf symbol offset) old l) (sym is) (record {
      count = entry_size start (parts_of symbol offset) old within;
      placed = stay_placed start (parts_of symbol offset) old within placed (parts_placed symbol offset);
      means = λ union owner symbols.
          entry_means union owner symbols start (parts_of symbol offset) old
          ∙ ap (λ (l : List Cell). first.with_entry start l (cells_of union owner symbols old)) (address_meant (first_pointer union owner (slice_get symbols symbol) offset));
    })

-- pointers have four bytes
pub pointer_size : (tags : Tags) (type : TypeTree) → IsTrue (is_pointer type) → size_of tags type ≡ 4
pointer_size tags (Pointer target) h = refl
pointer_size tags Void h = cc
pointer_size tags Char h = cc
pointer_size tags UChar h = cc
pointer_size tags Short h = cc
pointer_size tags UShort h = cc
pointer_size tags Int h = cc
pointer_size tags UInt h = cc
pointer_size tags Long h = cc
pointer_size tags ULong h = cc
pointer_size tags (Array element n) h = cc
pointer_size tags (Function result parameters) h = cc
pointer_size tags (Tagged i) h = cc
