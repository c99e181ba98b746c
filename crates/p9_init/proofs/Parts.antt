-- Cells that are taken one after the other, or four at once where they are an address.
use Rattle.std.proofs.Common.{ℕ, zero, suc, ◌+◌, ◌≡◌, ◌≤◌, ◌<◌, Option, Some, None, List, [], ◌∷◌, ◌++◌, length, map, drop, refl, sym, ap, ◌∙◌, subst, arith, append_assoc, append-nil, All}
use Rattle.std.proofs.lemmas.List.Elements.{All-append, All-cons, All-nil}
use Rattle.std.proofs.lemmas.Option.{none-some, same_Some, slice_get_within}
use Rattle.std.specs.Prelude.{slice_get}
use Rattle.p9_abs.specs.declared.modules.DataPiece.{DataPiece}
use Rattle.p9_abs.specs.declared.modules.DataPiece.TheVariants.{Raw, Address}
use Rattle.p9_abs.specs.Validity.{IsFilled}
use Rattle.p9_lang.specs.Symbols.{Symbol}
use Rattle.p9_cmean.specs.Cells as cells
use Rattle.p9_cmean.specs.Cells.{Cell, Pointer}
use Rattle.p9_cmean.specs.FirstContents.{address_cells}
use Rattle.p9_cmean.specs.Union.{Union}
use Rattle.p9_tree.specs.Contents.{first_pointer}
use Rattle.p9_init.specs.declared.cell.InitCell.{InitCell}
use Rattle.p9_init.specs.declared.cell.InitCell.TheVariants.{Byte, Part}
use Rattle.p9_init.specs.Cells.{part_cell, cells_of, IsPlaced, ArePlaced}
use Rattle.p9_init.specs.Pieces.{piece_cells, pieces_cells, MeanCells, with_raw}

-- PLACES

no_part : (n : ℕ) (part symbol offset : ℕ) → Some (Byte n) ≡ Some (Part part symbol offset) → ⊥
no_part n part symbol offset e = cc

same_part : (k s f part symbol offset : ℕ) → Some (Part k s f) ≡ Some (Part part symbol offset) → k ≡ part
same_part k s f part symbol offset e = cc

-- behind a byte addresses are whole
pub behind_byte : (n : ℕ) (rest : List InitCell) → ArePlaced (Byte n ∷ rest) → ArePlaced rest
behind_byte n rest placed i part symbol offset e =
    let p : IsPlaced (Byte n ∷ rest) (suc i) part symbol offset = placed (suc i) part symbol offset e in
    by p.base p.at p.few p.whole
  where
    by : (base : ℕ) → suc i ≡ base + part → part < 4 → ((other : ℕ) → other < 4 → slice_get (Byte n ∷ rest) (base + other) ≡ Some (Part other symbol offset)) → IsPlaced rest i part symbol offset
    by zero at few whole = absurd (no_part n 0 symbol offset (whole 0 (omega arith)))
    by (suc base) at few whole = record {
      base = base;
      at = omega (arith, at);
      few = few;
      whole = λ other h. (let e : suc base + other ≡ suc (base + other) = omega arith in sym (ap (slice_get (Byte n ∷ rest)) e) ∙ whole other h);
    }

-- four cells, and those behind them
pub record IsAddress (symbol offset : ℕ) (list : List InitCell) : Type 0 where
  pub rest : List InitCell
  pub is : list ≡ Part 0 symbol offset ∷ Part 1 symbol offset ∷ Part 2 symbol offset ∷ Part 3 symbol offset ∷ rest

four : (symbol offset : ℕ) (list : List InitCell) → ((other : ℕ) → other < 4 → slice_get list other ≡ Some (Part other symbol offset)) → IsAddress symbol offset list
four symbol offset [] whole = absurd (none-some (Part 0 symbol offset) (whole 0 (omega arith)))
four symbol offset (a ∷ []) whole = absurd (none-some (Part 1 symbol offset) (whole 1 (omega arith)))
four symbol offset (a ∷ b ∷ []) whole = absurd (none-some (Part 2 symbol offset) (whole 2 (omega arith)))
four symbol offset (a ∷ b ∷ c ∷ []) whole = absurd (none-some (Part 3 symbol offset) (whole 3 (omega arith)))
four symbol offset (a ∷ b ∷ c ∷ d ∷ rest) whole = record {
  rest = rest;
  is =
      ap (λ x. x ∷ b ∷ c ∷ d ∷ rest) (same_Some a (Part 0 symbol offset) (whole 0 (omega arith)))
      ∙ ap (λ x. Part 0 symbol offset ∷ x ∷ c ∷ d ∷ rest) (same_Some b (Part 1 symbol offset) (whole 1 (omega arith)))
      ∙ ap (λ x. Part 0 symbol offset ∷ Part 1 symbol offset ∷ x ∷ d ∷ rest) (same_Some c (Part 2 symbol offset) (whole 2 (omega arith)))
      ∙ ap (λ x. Part 0 symbol offset ∷ Part 1 symbol offset ∷ Part 2 symbol offset ∷ x ∷ rest) (same_Some d (Part 3 symbol offset) (whole 3 (omega arith)));
}

-- a part that comes first begins an address
pub begins : (part symbol offset : ℕ) (rest : List InitCell) → ArePlaced (Part part symbol offset ∷ rest) → IsAddress symbol offset (Part part symbol offset ∷ rest)
begins part symbol offset rest placed =
    let p : IsPlaced (Part part symbol offset ∷ rest) 0 part symbol offset = placed 0 part symbol offset refl in
    let at = p.at in
    four symbol offset (Part part symbol offset ∷ rest)
    (λ other h. (let e : other ≡ p.base + other = omega (arith, at) in ap (slice_get (Part part symbol offset ∷ rest)) e ∙ p.whole other h))

pub behind_address : (symbol offset : ℕ) (rest : List InitCell) → ArePlaced (Part 0 symbol offset ∷ Part 1 symbol offset ∷ Part 2 symbol offset ∷ Part 3 symbol offset ∷ rest) → ArePlaced rest
behind_address symbol offset rest placed i part s f e =
    let p = placed (suc (suc (suc (suc i)))) part s f e in
    by p.base p.at p.few p.whole
  where
    all : List InitCell
    all = Part 0 symbol offset ∷ Part 1 symbol offset ∷ Part 2 symbol offset ∷ Part 3 symbol offset ∷ rest

    by : (base : ℕ) → suc (suc (suc (suc i))) ≡ base + part → part < 4 →
        ((other : ℕ) → other < 4 → slice_get (Part 0 symbol offset ∷ Part 1 symbol offset ∷ Part 2 symbol offset ∷ Part 3 symbol offset ∷ rest) (base + other) ≡ Some (Part other s f)) → IsPlaced rest i part s f
    by zero at few whole = absurd (omega (arith, at, few))
    by (suc zero) at few whole = absurd (let k = same_part 1 symbol offset 0 s f (whole 0 (omega arith)) in omega (arith, k))
    by (suc (suc zero)) at few whole = absurd (let k = same_part 2 symbol offset 0 s f (whole 0 (omega arith)) in omega (arith, k))
    by (suc (suc (suc zero))) at few whole = absurd (let k = same_part 3 symbol offset 0 s f (whole 0 (omega arith)) in omega (arith, k))
    by (suc (suc (suc (suc base)))) at few whole = record {
      base = base;
      at = omega (arith, at);
      few = few;
      whole = λ other h. (let e : suc (suc (suc (suc base))) + other ≡ suc (suc (suc (suc (base + other)))) = omega arith in
          sym (ap (slice_get (Part 0 symbol offset ∷ Part 1 symbol offset ∷ Part 2 symbol offset ∷ Part 3 symbol offset ∷ rest)) e) ∙ whole other h);
    }

-- WHAT THEY HOLD

-- so far, behind the pieces and the bytes, comes the rest
abbrev pub MeanSoFar : List DataPiece → (raw : List ℕ) → (rest list : List InitCell) → Type 0
MeanSoFar pieces raw rest list =
    (union : Union) (owner : ℕ) (symbols : List Symbol) →
    pieces_cells union owner symbols pieces ++ (map cells.Byte raw ++ cells_of union owner symbols rest) ≡ cells_of union owner symbols list

map_push : (raw : List ℕ) (n : ℕ) (more : List Cell) → map cells.Byte (raw ++ n ∷ []) ++ more ≡ map cells.Byte raw ++ cells.Byte n ∷ more
map_push [] n more = refl
map_push (b ∷ bs) n more = ap (λ l. cells.Byte b ∷ l) (map_push bs n more)

pub byte_so_far : (pieces : List DataPiece) (raw : List ℕ) (n : ℕ) (rest list : List InitCell) → MeanSoFar pieces raw (Byte n ∷ rest) list → MeanSoFar pieces (raw ++ n ∷ []) rest list
byte_so_far pieces raw n rest list means union owner symbols =
    ap (λ l. pieces_cells union owner symbols pieces ++ l) (map_push raw n (cells_of union owner symbols rest)) ∙ means union owner symbols

pieces_push : (union : Union) (owner : ℕ) (symbols : List Symbol) (pieces : List DataPiece) (piece : DataPiece) (more : List Cell) →
    pieces_cells union owner symbols (pieces ++ piece ∷ []) ++ more ≡ pieces_cells union owner symbols pieces ++ (piece_cells union owner symbols piece ++ more)
pieces_push union owner symbols [] piece more = ap (λ l. l ++ more) (append-nil (piece_cells union owner symbols piece))
pieces_push union owner symbols (p ∷ ps) piece more =
    append_assoc (piece_cells union owner symbols p) (pieces_cells union owner symbols (ps ++ piece ∷ [])) more
    ∙ (ap (λ l. piece_cells union owner symbols p ++ l) (pieces_push union owner symbols ps piece more)
    ∙ sym (append_assoc (piece_cells union owner symbols p) (pieces_cells union owner symbols ps) (piece_cells union owner symbols piece ++ more)))

raw_so_far : (union : Union) (owner : ℕ) (symbols : List Symbol) (pieces : List DataPiece) (raw : List ℕ) (more : List Cell) →
    pieces_cells union owner symbols (with_raw pieces raw) ++ more ≡ pieces_cells union owner symbols pieces ++ (map cells.Byte raw ++ more)
raw_so_far union owner symbols pieces [] more = refl
raw_so_far union owner symbols pieces (b ∷ bs) more = pieces_push union owner symbols pieces (Raw (b ∷ bs)) more

address_parts : (o : Option Pointer) (more : List Cell) → address_cells o ++ more ≡ part_cell 0 o ∷ part_cell 1 o ∷ part_cell 2 o ∷ part_cell 3 o ∷ more
address_parts None more = refl
address_parts (Some pointer) more = refl

pub address_so_far : (pieces : List DataPiece) (raw : List ℕ) (symbol offset : ℕ) (rest list : List InitCell) →
    MeanSoFar pieces raw (Part 0 symbol offset ∷ Part 1 symbol offset ∷ Part 2 symbol offset ∷ Part 3 symbol offset ∷ rest) list → MeanSoFar (with_raw pieces raw ++ Address symbol offset ∷ []) [] rest list
address_so_far pieces raw symbol offset rest list means union owner symbols =
    let pointer : Option Pointer = first_pointer union owner (slice_get symbols symbol) offset in
    pieces_push union owner symbols (with_raw pieces raw) (Address symbol offset) (cells_of union owner symbols rest)
    ∙ (ap (λ l. pieces_cells union owner symbols (with_raw pieces raw) ++ l) (address_parts pointer (cells_of union owner symbols rest))
    ∙ (raw_so_far union owner symbols pieces raw (part_cell 0 pointer ∷ part_cell 1 pointer ∷ part_cell 2 pointer ∷ part_cell 3 pointer ∷ cells_of union owner symbols rest)
    ∙ means union owner symbols))

pub all_so_far : (pieces : List DataPiece) (raw : List ℕ) (list : List InitCell) → MeanSoFar pieces raw [] list → MeanCells (with_raw pieces raw) list
all_so_far pieces raw list means union owner symbols =
    sym (append-nil (pieces_cells union owner symbols (with_raw pieces raw))) ∙ (raw_so_far union owner symbols pieces raw [] ∙ means union owner symbols)

pub filled_raw : (pieces : List DataPiece) (raw : List ℕ) → All IsFilled pieces → All IsFilled (with_raw pieces raw)
filled_raw pieces [] h = h
filled_raw pieces (b ∷ bs) h = All-append IsFilled pieces (Raw (b ∷ bs) ∷ []) h (All-cons IsFilled (Raw (b ∷ bs)) [] (omega arith) (All-nil IsFilled))

pub filled_address : (pieces : List DataPiece) (symbol offset : ℕ) → All IsFilled pieces → All IsFilled (pieces ++ Address symbol offset ∷ [])
filled_address pieces symbol offset h = All-append IsFilled pieces (Address symbol offset ∷ []) h (All-cons IsFilled (Address symbol offset) [] tt (All-nil IsFilled))

-- BY THEIR NUMBERS

drop_at : {X : Type 0} (xs : List X) (at : ℕ) (x : X) → slice_get xs at ≡ Some x → drop at xs ≡ x ∷ drop (at + 1) xs
drop_at [] at x e = absurd (none-some x e)
drop_at (y ∷ ys) zero x e = ap (λ z. z ∷ ys) (same_Some y x e) ∙ (let n : 1 ≡ 0 + 1 = omega arith in ap (λ k. x ∷ drop k (y ∷ ys)) n)
drop_at (y ∷ ys) (suc at) x e = drop_at ys at x e ∙ (let n : suc (at + 1) ≡ suc at + 1 = omega arith in ap (λ k. x ∷ drop k (y ∷ ys)) n)

drop_none : {X : Type 0} (n : ℕ) → ◌≡◌ {A = List X} (drop n []) []
drop_none zero = refl
drop_none (suc n) = refl

drop_drop : {X : Type 0} (n at : ℕ) (xs : List X) → drop n (drop at xs) ≡ drop (at + n) xs
drop_drop n zero [] = (let e : n ≡ 0 + n = omega arith in ap (λ k. drop k []) e)
drop_drop n zero (x ∷ xs) = (let e : n ≡ 0 + n = omega arith in ap (λ k. drop k (x ∷ xs)) e)
drop_drop {X = X} zero (suc at) [] = sym (drop_none {X = X} (suc at + 0))
drop_drop {X = X} (suc n) (suc at) [] = sym (drop_none {X = X} (suc at + suc n))
drop_drop n (suc at) (x ∷ xs) = drop_drop n at xs ∙ (let e : suc (at + n) ≡ suc at + n = omega arith in ap (λ k. drop k (x ∷ xs)) e)

-- what is so at a number of a list of cells
pub record StandsAt (cells : List InitCell) (pieces : List DataPiece) (raw : List ℕ) (at : ℕ) : Type 0 where
  pub within : at ≤ length cells
  pub placed : ArePlaced (drop at cells)
  pub means : MeanSoFar pieces raw (drop at cells) cells
  pub filled : All IsFilled pieces

pub at_byte : (cells : List InitCell) (pieces : List DataPiece) (raw : List ℕ) (at n : ℕ) → StandsAt cells pieces raw at → slice_get cells at ≡ Some (Byte n) → StandsAt cells pieces (raw ++ n ∷ []) (at + 1)
at_byte cells pieces raw at n s e =
    let split : drop at cells ≡ Byte n ∷ drop (at + 1) cells = drop_at cells at (Byte n) e in
    let inside = slice_get_within cells at (Byte n) e in
    record {
      within = omega (arith, inside);
      placed = behind_byte n (drop (at + 1) cells) (subst ArePlaced split s.placed);
      means = byte_so_far pieces raw n (drop (at + 1) cells) cells (subst (λ l. MeanSoFar pieces raw l cells) split s.means);
      filled = s.filled;
    }

-- the address of a part, and the cells behind it
pub record IsAddressAt (cells : List InitCell) (at symbol offset : ℕ) : Type 0 where
  pub whole : drop at cells ≡ Part 0 symbol offset ∷ Part 1 symbol offset ∷ Part 2 symbol offset ∷ Part 3 symbol offset ∷ drop (at + 4) cells
  pub within : at + 4 ≤ length cells

address_at : (cells : List InitCell) (at part symbol offset : ℕ) → ArePlaced (drop at cells) → slice_get cells at ≡ Some (Part part symbol offset) → IsAddressAt cells at symbol offset
address_at cells at part symbol offset placed e =
    let split : drop at cells ≡ Part part symbol offset ∷ drop (at + 1) cells = drop_at cells at (Part part symbol offset) e in
    let a : IsAddress symbol offset (Part part symbol offset ∷ drop (at + 1) cells) = begins part symbol offset (drop (at + 1) cells) (subst ArePlaced split placed) in
    let whole : drop at cells ≡ Part 0 symbol offset ∷ Part 1 symbol offset ∷ Part 2 symbol offset ∷ Part 3 symbol offset ∷ a.rest = split ∙ a.is in
    let rest : a.rest ≡ drop (at + 4) cells = sym (ap (drop 4) whole) ∙ drop_drop 4 at cells in
    let size : length (drop at cells) ≡ 4 + length a.rest = ap length whole ∙ omega arith in
    record {
      whole = whole ∙ ap (λ l. Part 0 symbol offset ∷ Part 1 symbol offset ∷ Part 2 symbol offset ∷ Part 3 symbol offset ∷ l) rest;
      within = (let inside = slice_get_within cells at (Part part symbol offset) e in let all = dropped cells at (omega (arith, inside)) in omega (arith, size, all, inside));
    }
  where
    dropped : {X : Type 0} (xs : List X) (k : ℕ) → k ≤ length xs → length xs ≡ length (drop k xs) + k
    dropped [] zero h = refl
    dropped [] (suc k) h = absurd (omega (arith, h))
    dropped (x ∷ xs) zero h = omega arith
    dropped (x ∷ xs) (suc k) h = (let r = dropped xs k (omega (arith, h)) in omega (arith, r))

pub address_within : (cells : List InitCell) (pieces : List DataPiece) (raw : List ℕ) (at part symbol offset : ℕ) → StandsAt cells pieces raw at → slice_get cells at ≡ Some (Part part symbol offset) → at + 4 ≤ length cells
address_within cells pieces raw at part symbol offset s e = (address_at cells at part symbol offset s.placed e).within

pub at_address : (cells : List InitCell) (pieces : List DataPiece) (raw : List ℕ) (at part symbol offset : ℕ) → StandsAt cells pieces raw at → slice_get cells at ≡ Some (Part part symbol offset) →
    StandsAt cells (with_raw pieces raw ++ Address symbol offset ∷ []) [] (at + 4)
at_address cells pieces raw at part symbol offset s e =
    let a : IsAddressAt cells at symbol offset = address_at cells at part symbol offset s.placed e in
    record {
      within = a.within;
      placed = behind_address symbol offset (drop (at + 4) cells) (subst ArePlaced a.whole s.placed);
      means = address_so_far pieces raw symbol offset (drop (at + 4) cells) cells (subst (λ l. MeanSoFar pieces raw l cells) a.whole s.means);
      filled = filled_address (with_raw pieces raw) symbol offset (filled_raw pieces raw s.filled);
    }

pub at_start : (cells : List InitCell) → ArePlaced cells → StandsAt cells [] [] 0
at_start cells placed = record {
  within = omega arith;
  placed = subst ArePlaced (sym (none_dropped cells)) placed;
  means = λ union owner symbols. ap (cells_of union owner symbols) (none_dropped cells);
  filled = All-nil IsFilled;
}
  where
    none_dropped : {X : Type 0} (xs : List X) → drop 0 xs ≡ xs
    none_dropped [] = refl
    none_dropped (x ∷ xs) = refl

pub at_end : (cells : List InitCell) (pieces : List DataPiece) (raw : List ℕ) (at : ℕ) → StandsAt cells pieces raw at → length cells ≤ at → MeanCells (with_raw pieces raw) cells
at_end cells pieces raw at s h = all_so_far pieces raw cells (subst (λ l. MeanSoFar pieces raw l cells) (all_dropped cells at h) s.means)
  where
    all_dropped : {X : Type 0} (xs : List X) (k : ℕ) → length xs ≤ k → drop k xs ≡ []
    all_dropped [] zero h = refl
    all_dropped [] (suc k) h = refl
    all_dropped (x ∷ xs) zero h = absurd (omega (arith, h))
    all_dropped (x ∷ xs) (suc k) h = all_dropped xs k (omega (arith, h))
