-- Pieces of data: what is read is well pieced and finds room, each such is read, and from inside a
-- piece some fields lead to its end.
use Rattle.std.proofs.Common.{◌≡◌, ◌≢◌, ℕ, zero, suc, ◌+◌, ◌-◌, ◌*◌, ◌%◌, ◌<◌, ◌≤◌, Bool, true, false, ◌&&◌, ◌||◌, not, List, [], ◌∷◌, ◌++◌, length, replicate, All, refl, sym, ap, subst, ◌∙◌, arith, inl, inr}
use Rattle.std.specs.Prelude.{nat_lt, nat_le, if◌then◌else◌, ◌==◌, sum_by}
use Rattle.std.proofs.lemmas.Bool.{cond_both, eqb-true, eq-eqb, ne_eqb, ltb-true, lt-ltb, leb-true, le-leb, and_parts, and_from, true≢false, or_cases}
use Rattle.std.proofs.lemmas.List.Elements.{All-nil, All-cons, All-head, All-tail, All-replicate}
use Rattle.std.proofs.lemmas.List.{length-replicate}
use Rattle.std.proofs.lemmas.List.Sums.{sum_by-cons, sum_by_push}
use Rattle.p9_abs.specs.declared.modules.DataPiece.{DataPiece}
use Rattle.p9_abs.specs.declared.modules.DataPiece.TheVariants.{Raw, Address}
use Rattle.p9_abs.specs.Modules.{piece_size, pieces_size, named_by_piece}
use Rattle.p9_abs.specs.Validity.{IsWithin, IsFilled, NoRawNeighbours, AddressesAligned}
use Rattle.p9_object.specs.Fields.{Field, Byte, Half, Word, Chars, piece_fields}
use Rattle.p9_object.specs.Laws.{PieceFits, IsByte}
use Rattle.p9_object.specs.Machine.{Turn, Bad, Stay, Whole, stay_if, whole_if, PiecePlace, AtPiece, AtRawLength, AtRaw, AtPieceSymbol, AtPieceOffset, read_piece, size_limit, ends_raw, raw_fits, piece_step}
use Rattle.p9_object.proofs.Operands.{nothing, stays, wholes, stay_on, whole_on, runs, runs_none, runs_append, FieldFits, AllFit}
use Rattle.p9_object.proofs.Instructions.{all_push}

-- Sizes

pub size_cons : (p : DataPiece) (ps : List DataPiece) → pieces_size (p ∷ ps) ≡ piece_size p + pieces_size ps
size_cons p ps = sum_by-cons piece_size p ps

pub size_push : (ps : List DataPiece) (p : DataPiece) → pieces_size (ps ++ p ∷ []) ≡ pieces_size ps + piece_size p
size_push ps p = sum_by_push piece_size ps p

-- Pieces one behind the other

abbrev pub is_raw : DataPiece → Bool
is_raw (Raw bytes) = true
is_raw (Address s o) = false

pub ends_push : (ps : List DataPiece) (p : DataPiece) → ends_raw (ps ++ p ∷ []) ≡ is_raw p
ends_push [] (Raw b) = refl
ends_push [] (Address s o) = refl
ends_push (Raw b ∷ []) p = ends_push [] p
ends_push (Address s o ∷ []) p = ends_push [] p
ends_push (Raw b ∷ q ∷ ps) p = ends_push (q ∷ ps) p
ends_push (Address s o ∷ q ∷ ps) p = ends_push (q ∷ ps) p

pub parted_push : (ps : List DataPiece) (p : DataPiece) → NoRawNeighbours ps → (is_raw p ≡ true → ends_raw ps ≡ false) → NoRawNeighbours (ps ++ p ∷ [])
parted_push [] (Raw b) h k = tt
parted_push [] (Address s o) h k = tt
parted_push (Address s o ∷ ps) p h k = parted_push ps p h (tail ps k)
  where
    tail : (ps : List DataPiece) → (is_raw p ≡ true → ends_raw (Address s o ∷ ps) ≡ false) → is_raw p ≡ true → ends_raw ps ≡ false
    tail [] k e = refl
    tail (q ∷ qs) k e = k e
parted_push (Raw b ∷ []) (Raw c) h k = absurd (true≢false (k refl))
parted_push (Raw b ∷ []) (Address s o) h k = tt
parted_push (Raw b ∷ Raw c ∷ ps) p h k = absurd h
parted_push (Raw b ∷ Address s o ∷ ps) p h k = parted_push (Address s o ∷ ps) p h k

pub aligned_push : (place : ℕ) (ps : List DataPiece) (p : DataPiece) → AddressesAligned place ps → (is_raw p ≡ false → (place + pieces_size ps) % 4 ≡ 0) → AddressesAligned place (ps ++ p ∷ [])
aligned_push place [] (Raw b) h k = tt
aligned_push place [] (Address s o) h k = (subst (λ (n : ℕ). n % 4 ≡ 0) (zero_right place) (k refl), tt)
  where
    zero_right : (n : ℕ) → n + 0 ≡ n
    zero_right n = omega arith
aligned_push place (Raw b ∷ ps) p h k = aligned_push (place + length b) ps p h (λ e. subst (λ (n : ℕ). n % 4 ≡ 0) (omega (arith, size_cons (Raw b) ps)) (k e))
aligned_push place (Address s o ∷ ps) p h k = (h.0, aligned_push (place + 4) ps p h.1 (λ e. subst (λ (n : ℕ). n % 4 ≡ 0) (omega (arith, size_cons (Address s o) ps)) (k e)))

-- What is read

-- room for a piece that begins behind these, and for so many behind it
abbrev pub HasRoom : (size behind : ℕ) → Type 0
HasRoom size behind = (size % 4 ≡ 0) × (size + 4 * (behind + 1) ≤ size_limit)

abbrev pub RawRoom : (size n behind : ℕ) → Type 0
RawRoom size n behind = (0 < n) × (size + n + 4 * behind ≤ size_limit) × ((behind == 0) || (n % 4 == 0)) ≡ true

raw_room : (size n behind : ℕ) → raw_fits size n behind ≡ true → RawRoom size n behind
raw_room size n behind h =
    let a = and_parts (nat_lt 0 n) (nat_le (size + n + 4 * behind) size_limit && ((behind == 0) || (n % 4 == 0))) h in
    let b = and_parts (nat_le (size + n + 4 * behind) size_limit) ((behind == 0) || (n % 4 == 0)) a.1 in
    (ltb-true 0 n a.0, leb-true (size + n + 4 * behind) size_limit b.0, b.1)

abbrev pub PieceWell : (symbols : ℕ) → (before : List DataPiece) → (behind : ℕ) → PiecePlace → Type 0
PieceWell symbols before behind AtPiece = HasRoom (pieces_size before) behind
PieceWell symbols before behind AtRawLength = HasRoom (pieces_size before) behind × (ends_raw before ≡ false)
PieceWell symbols before behind (AtRaw n) = HasRoom (pieces_size before) behind × (ends_raw before ≡ false) × RawRoom (pieces_size before) n behind
PieceWell symbols before behind AtPieceSymbol = HasRoom (pieces_size before) behind
PieceWell symbols before behind (AtPieceOffset s) = HasRoom (pieces_size before) behind × (s < symbols)

pub record IsNext (symbols : ℕ) (before : List DataPiece) (behind : ℕ) (p : DataPiece) : Type 0 where
  pub filled : IsFilled p
  pub parted : is_raw p ≡ true → ends_raw before ≡ false
  pub start : pieces_size before % 4 ≡ 0
  pub symbol : IsWithin symbols (named_by_piece p)
  pub fits : PieceFits p
  pub room : pieces_size before + piece_size p + 4 * behind ≤ size_limit
  pub aligned : 0 < behind → (pieces_size before + piece_size p) % 4 ≡ 0
  pub some : 1 ≤ piece_size p

abbrev pub PieceOk : (symbols : ℕ) → (before : List DataPiece) → (behind : ℕ) → PiecePlace → Field → Turn PiecePlace DataPiece → Type 0
PieceOk symbols before behind p f Bad = Unit {0}
PieceOk symbols before behind p f (Stay q) = (read_piece q ≡ read_piece p ++ f ∷ []) × PieceWell symbols before behind q
PieceOk symbols before behind p f (Whole x) = (piece_fields x ≡ read_piece p ++ f ∷ []) × IsNext symbols before behind x

byte_is : (n k : ℕ) → (n == k) ≡ true → Byte k ∷ [] ≡ Byte n ∷ []
byte_is n k e = ap (λ (k : ℕ). Byte k ∷ []) (sym (eqb-true n k e))

not_true : (b : Bool) → not b ≡ true → b ≡ false
not_true true h = nothing h
not_true false h = refl

multiple : (behind n : ℕ) → ((behind == 0) || (n % 4 == 0)) ≡ true → 0 < behind → n % 4 ≡ 0
multiple behind n h k =
    elim (or_cases (behind == 0) (n % 4 == 0) h) [
      | inl z ↦ absurd (omega (arith, eqb-true behind 0 z, k))
      | inr m ↦ eqb-true (n % 4) 0 m
    ]

pub piece_sound : (symbols : ℕ) (before : List DataPiece) (behind : ℕ) (p : PiecePlace) (f : Field) → FieldFits f → PieceWell symbols before behind p → PieceOk symbols before behind p f (piece_step symbols before behind p f)
piece_sound symbols before behind AtPiece (Byte n) k w =
    let Q : Turn PiecePlace DataPiece → Type 0 = PieceOk symbols before behind AtPiece (Byte n) in
    cond_both (n == 0) _ _ Q
    (λ e. stays Q (not (ends_raw before)) AtRawLength tt (λ m. (byte_is n 0 e, (w, not_true (ends_raw before) m))))
    (λ e. stays Q (n == 1) AtPieceSymbol tt (λ m. (byte_is n 1 m, w)))
piece_sound symbols before behind AtRawLength (Word n) k w =
    stays (PieceOk symbols before behind AtRawLength (Word n)) (raw_fits (pieces_size before) n behind) (AtRaw n) tt (λ m. (refl, (w.0, w.1, raw_room (pieces_size before) n behind m)))
piece_sound symbols before behind (AtRaw n) (Chars bytes) k w =
    wholes (PieceOk symbols before behind (AtRaw n) (Chars bytes)) (length bytes == n) (Raw bytes) tt
    (λ m.
    let e : length bytes ≡ n = eqb-true (length bytes) n m in (
      ap (λ (k : ℕ). Byte 0 ∷ Word k ∷ Chars bytes ∷ []) e,
      record {
        filled = omega (arith, e, w.2.0);
        parted = λ r. w.1;
        start = w.0.0;
        symbol = tt;
        fits = k;
        room = omega (arith, e, w.2.1);
        aligned = λ b. omega (arith, e, w.0.0, multiple behind n w.2.2 b);
        some = omega (arith, e, w.2.0);
      },
    ))
piece_sound symbols before behind AtPieceSymbol (Word x) k w =
    stays (PieceOk symbols before behind AtPieceSymbol (Word x)) (nat_lt x symbols) (AtPieceOffset x) tt (λ m. (refl, (w, ltb-true x symbols m)))
piece_sound symbols before behind (AtPieceOffset x) (Word o) k w = (
  refl,
  record {
    filled = tt;
    parted = λ r. nothing r;
    start = w.0.0;
    symbol = w.1;
    fits = k;
    room = omega (arith, w.0.1);
    aligned = λ b. omega (arith, w.0.0);
    some = omega arith;
  },
)
piece_sound symbols before behind _ _ k w = tt

-- Each piece that finds room is read.

passes : (symbols : ℕ) (before : List DataPiece) (behind : ℕ) (b : Bool) (p : PiecePlace) (fs : List Field) → b ≡ true → runs (piece_step symbols before behind) (stay_if b p) fs ≡ runs (piece_step symbols before behind) (Stay p) fs
passes symbols before behind b p fs h = ap (λ (t : Turn PiecePlace DataPiece). runs (piece_step symbols before behind) t fs) (stay_on b p h)

abbrev pub CanCome : (symbols : ℕ) → (before : List DataPiece) → (behind : ℕ) → DataPiece → Type 0
CanCome symbols before behind (Raw bytes) = (ends_raw before ≡ false) × RawRoom (pieces_size before) (length bytes) behind
CanCome symbols before behind (Address s o) = s < symbols

fits_back : (size n behind : ℕ) → RawRoom size n behind → raw_fits size n behind ≡ true
fits_back size n behind h =
    and_from (nat_lt 0 n) (nat_le (size + n + 4 * behind) size_limit && ((behind == 0) || (n % 4 == 0))) (lt-ltb 0 n h.0)
    (and_from (nat_le (size + n + 4 * behind) size_limit) ((behind == 0) || (n % 4 == 0)) (le-leb (size + n + 4 * behind) size_limit h.1) h.2)

pub piece_read : (symbols : ℕ) (before : List DataPiece) (behind : ℕ) (p : DataPiece) → CanCome symbols before behind p → runs (piece_step symbols before behind) (Stay AtPiece) (piece_fields p) ≡ Whole p
piece_read symbols before behind (Raw bytes) h =
    passes symbols before behind (not (ends_raw before)) AtRawLength (Word (length bytes) ∷ Chars bytes ∷ []) (ap (λ (b : Bool). not b) h.0)
    ∙ passes symbols before behind (raw_fits (pieces_size before) (length bytes) behind) (AtRaw (length bytes)) (Chars bytes ∷ []) (fits_back (pieces_size before) (length bytes) behind h.1)
    ∙ ap (λ (t : Turn PiecePlace DataPiece). runs (piece_step symbols before behind) t []) (whole_on (length bytes == length bytes) (Raw bytes) (eq-eqb (length bytes) (length bytes) refl))
piece_read symbols before behind (Address x o) h = passes symbols before behind (nat_lt x symbols) (AtPieceOffset x) (Word o ∷ []) (lt-ltb x symbols h)

-- The pieces of valid data find room

-- the rules on pieces that begin at this size, behind a raw one or not
abbrev pub AreGood : (symbols size : ℕ) → (raw : Bool) → List DataPiece → Type 0
AreGood symbols size raw [] = Unit {0}
AreGood symbols size raw (Raw bytes ∷ ps) = (raw ≡ false) × (1 ≤ length bytes) × AreGood symbols (size + length bytes) true ps
AreGood symbols size raw (Address s o ∷ ps) = (size % 4 ≡ 0) × (s < symbols) × AreGood symbols (size + 4) false ps

pub good_pieces : (symbols size : ℕ) (ps : List DataPiece) → All IsFilled ps → NoRawNeighbours ps → AddressesAligned size ps → All (λ p. IsWithin symbols (named_by_piece p)) ps → AreGood symbols size false ps
good_pieces symbols size [] f n a w = tt
good_pieces symbols size (Address x o ∷ ps) f n a w =
    let W : DataPiece → Type 0 = λ p. IsWithin symbols (named_by_piece p) in
    (a.0, All-head W (Address x o) ps w, good_pieces symbols (size + 4) ps (All-tail IsFilled (Address x o) ps f) n a.1 (All-tail W (Address x o) ps w))
good_pieces symbols size (Raw b ∷ []) f n a w = (refl, All-head IsFilled (Raw b) [] f, tt)
good_pieces symbols size (Raw b ∷ Raw c ∷ ps) f n a w = absurd n
good_pieces symbols size (Raw b ∷ Address x o ∷ ps) f n a w =
    let W : DataPiece → Type 0 = λ p. IsWithin symbols (named_by_piece p) in
    let rest : List DataPiece = Address x o ∷ ps in
    let g = good_pieces symbols (size + length b) (Address x o ∷ ps) (All-tail IsFilled (Raw b) rest f) n a (All-tail W (Raw b) rest w) in
    (refl, All-head IsFilled (Raw b) rest f, g)

-- all but the last take at least 4 bytes
pub least : (symbols size : ℕ) (raw : Bool) (ps : List DataPiece) → size % 4 ≡ 0 → AreGood symbols size raw ps → 4 * length ps ≤ pieces_size ps + 3
least symbols size raw [] e g = omega arith
least symbols size raw (Raw b ∷ []) e g = omega (arith, g.1, size_cons (Raw b) [])
least symbols size raw (Raw b ∷ Raw c ∷ ps) e g = absurd (true≢false g.2.0)
least symbols size raw (Raw b ∷ Address x o ∷ ps) e g =
    let r = least symbols (size + length b) true (Address x o ∷ ps) g.2.0 g.2 in
    omega (arith, r, g.1, e, g.2.0, size_cons (Raw b) (Address x o ∷ ps))
least symbols size raw (Address x o ∷ ps) e g =
    let r = least symbols (size + 4) false ps (omega (arith, e)) g.2 in
    omega (arith, r, size_cons (Address x o) ps)

or_right : (x y : Bool) → y ≡ true → (x || y) ≡ true
or_right true y h = refl
or_right false y h = h

pub can_come : (symbols : ℕ) (before : List DataPiece) (p : DataPiece) (ps : List DataPiece) → pieces_size before % 4 ≡ 0 → AreGood symbols (pieces_size before) (ends_raw before) (p ∷ ps) → pieces_size before + pieces_size (p ∷ ps) ≤ size_limit → CanCome symbols before (length ps) p
can_come symbols before (Address x o) ps e g h = g.1
can_come symbols before (Raw b) [] e g h = (g.0, (g.1, omega (arith, h, size_cons (Raw b) []), refl))
can_come symbols before (Raw b) (Raw c ∷ ps) e g h = absurd (true≢false g.2.0)
can_come symbols before (Raw b) (Address x o ∷ ps) e g h =
    let r = least symbols (pieces_size before + length b) true (Address x o ∷ ps) g.2.0 g.2 in
    let m : length b % 4 ≡ 0 = omega (arith, e, g.2.0) in
    (g.0, (g.1, omega (arith, r, h, e, g.2.0, size_cons (Raw b) (Address x o ∷ ps)), or_right (length (Address x o ∷ ps) == 0) (length b % 4 == 0) (eq-eqb (length b % 4) 0 m)))

-- From inside a piece some fields lead to its end.

pub record PieceLeads (symbols : ℕ) (before : List DataPiece) (behind : ℕ) (p : PiecePlace) : Type 0 where
  pub fields : List Field
  pub fits : AllFit fields
  pub piece : DataPiece
  pub reads : runs (piece_step symbols before behind) (Stay p) fields ≡ Whole piece

zeros_fit : (n : ℕ) → All IsByte (replicate n 0)
zeros_fit n = All-replicate IsByte n 0 (omega arith)

pub piece_leads : (symbols : ℕ) (before : List DataPiece) (behind : ℕ) (p : PiecePlace) → 0 < symbols → PieceWell symbols before behind p → PieceLeads symbols before behind p
piece_leads symbols before behind AtPiece s w =
    record { fields = Byte 1 ∷ Word 0 ∷ Word 0 ∷ []; fits = (omega arith, (omega arith, (omega arith, tt))); piece = Address 0 0; reads = passes symbols before behind (nat_lt 0 symbols) (AtPieceOffset 0) (Word 0 ∷ []) (lt-ltb 0 symbols s) }
piece_leads symbols before behind AtPieceSymbol s w =
    record { fields = Word 0 ∷ Word 0 ∷ []; fits = (omega arith, (omega arith, tt)); piece = Address 0 0; reads = passes symbols before behind (nat_lt 0 symbols) (AtPieceOffset 0) (Word 0 ∷ []) (lt-ltb 0 symbols s) }
piece_leads symbols before behind (AtPieceOffset x) s w = record { fields = Word 0 ∷ []; fits = (omega arith, tt); piece = Address x 0; reads = refl }
piece_leads symbols before behind AtRawLength s w =
    let r : RawRoom (pieces_size before) 4 behind = (omega arith, omega (arith, w.0.1), or_right (behind == 0) (4 % 4 == 0) refl) in
    record {
      fields = Word 4 ∷ Chars (0 ∷ 0 ∷ 0 ∷ 0 ∷ []) ∷ [];
      fits = (omega arith, (zeros_fit 4, tt));
      piece = Raw (0 ∷ 0 ∷ 0 ∷ 0 ∷ []);
      reads = passes symbols before behind (raw_fits (pieces_size before) 4 behind) (AtRaw 4) (Chars (0 ∷ 0 ∷ 0 ∷ 0 ∷ []) ∷ []) (fits_back (pieces_size before) 4 behind r);
    }
piece_leads symbols before behind (AtRaw n) s w =
    record {
      fields = Chars (replicate n 0) ∷ [];
      fits = (zeros_fit n, tt);
      piece = Raw (replicate n 0);
      reads = ap (λ (t : Turn PiecePlace DataPiece). runs (piece_step symbols before behind) t []) (whole_on (length (replicate n 0) == n) (Raw (replicate n 0)) (eq-eqb (length (replicate n 0)) n (length-replicate n 0)));
    }
