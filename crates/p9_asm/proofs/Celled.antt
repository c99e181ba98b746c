-- The data of a symbol of a file without breaks are those of a valid module.
use Rattle.std.proofs.Common.{◌≡◌, ◌≢◌, ℕ, zero, suc, ◌+◌, ◌-◌, ◌%◌, ◌==◌, ◌<◌, ◌≤◌, Bool, true, false, not, cond, List, [], ◌∷◌, length, Option, Some, None, unwrap_or, slice_get, refl, sym, ap, subst, ◌∙◌, arith}
use Rattle.std.specs.Prelude.{option_and_then}
use Rattle.std.specs.List.{list_all}
use Rattle.std.proofs.lemmas.Bool.Decides.{nat_tests}
use Rattle.std.proofs.lemmas.List.Sums.{sum_by-cons}
use Rattle.p9_abs.specs.declared.modules.DataPiece.{DataPiece}
use Rattle.p9_abs.specs.declared.modules.DataPiece.TheVariants as piece
use Rattle.p9_abs.specs.Modules.{piece_size, pieces_size, named_by_piece}
use Rattle.p9_abs.specs.Validity.{IsWithin, IsFilled, NoRawNeighbours, AddressesAligned}
use Rattle.p9_lex.specs.declared.token.Token.{Token}
use Rattle.p9_statement.specs.declared.operands.SymbolName.{SymbolName}
use Rattle.p9_statement.specs.declared.statements.Datum.{Datum}
use Rattle.p9_statement.specs.declared.statements.Datum.TheVariants as data_values
use Rattle.p9_statement.specs.declared.statements.Statement.{Statement}
use Rattle.p9_statement.specs.declared.statements.Statement.TheVariants as statements
use Rattle.p9_statement.specs.declared.statements.Line.{Line}
use Rattle.p9_rows.specs.declared.rows.Row.{Row}
use Rattle.p9_facts.specs.declared.facts.Fact.{Fact}
use Rattle.p9_facts.specs.Facts.{says, definition, byte_of, word_facts, datum_bytes}
use Rattle.p9_facts.specs.Names.{symbols_of, names_of_statement, names_of_content}
use Rattle.p9_asm.specs.declared.pieces.Cell.{Cell}
use Rattle.p9_asm.specs.declared.pieces.Cell.TheVariants.{Byte, Start, Inside}
use Rattle.p9_asm.specs.Files.{File, file_of, number_of, statement_in, statement_at}
use Rattle.p9_asm.specs.Breaks.{size_at, width_of, is_at, is_new, was_smaller, is_broken, is_outside, is_outside_size, is_unended}
use Rattle.p9_asm.specs.Data.{cell_of, cell_in, standing, raw_in_front, in_front, pieces_from}
use Rattle.p9_asm.proofs.Options.{Each, not_false}
use Rattle.p9_asm.proofs.Places.{found_first}
use Rattle.p9_facts.proofs.Noting.{both}
use Rattle.p9_asm.proofs.Saying.{Gives, row_gives}
use Rattle.p9_asm.proofs.Clean.{or_parts, IsClean, IsSound}
use Rattle.p9_asm.proofs.Functions.{proper_at}
use Rattle.p9_asm.proofs.Listed.{IsListed, row_listed, number_small}

-- The line that gives a byte

pub record IsGiven (rows : List Row) (s : SymbolName) (p : ℕ) : Type 0 where
  pub row : ℕ
  pub line : Row
  pub offset : ℕ
  pub datum : Datum
  pub first : (file_of rows).first (byte_of s p) ≡ Some row
  pub at : slice_get rows row ≡ Some line
  pub is : statement_in line.content ≡ Some (statements.Data s offset datum)
  pub low : offset ≤ p
  pub high : p < offset + width_of datum

given_by : (rows : List Row) (s : SymbolName) (p i : ℕ) (r : Row) (st : Option Statement) → (file_of rows).first (byte_of s p) ≡ Some i → slice_get rows i ≡ Some r → statement_in r.content ≡ st → Gives s p st → IsGiven rows s p
given_by rows s p i r None first at is h = absurd h
given_by rows s p i r (Some (statements.Text t frame)) first at is h = absurd h
given_by rows s p i r (Some (statements.Globl t size)) first at is h = absurd h
given_by rows s p i r (Some (statements.Data t o d)) first at is h =
    record { row = i; line = r; offset = o; datum = d; first = first; at = at; is = is ∙ ap (λ x. Some (statements.Data x o d)) h.0; low = h.1; high = h.2 }
given_by rows s p i r (Some (statements.Signature t token)) first at is h = absurd h
given_by rows s p i r (Some (statements.Instruction op given)) first at is h = absurd h

given_at : (rows : List Row) (s : SymbolName) (p i : ℕ) → (file_of rows).first (byte_of s p) ≡ Some i → IsGiven rows s p
given_at rows s p i h =
    let f = found_first (says (byte_of s p)) rows i h in
    given_by rows s p i f.item (statement_in f.item.content) h f.here refl (row_gives s p f.item f.passes)

pub statement_there : (rows : List Row) (i : ℕ) (r : Row) (st : Option Statement) → slice_get rows i ≡ Some r → statement_in r.content ≡ st → statement_at (file_of rows) i ≡ st
statement_there rows i r st at is = ap (option_and_then (λ (row : Row). statement_in row.content)) at ∙ is

-- what a line gives stands at its bytes
stands : (rows : List Row) (s : SymbolName) (p q : ℕ) → (g : IsGiven rows s p) → (file_of rows).first (byte_of s q) ≡ Some g.row → standing (file_of rows) s q ≡ cell_of g.datum (q - g.offset)
unfolding standing
stands rows s p q g h =
    let file = file_of rows in
    let st = statement_there rows g.row g.line (Some (statements.Data s g.offset g.datum)) g.at g.is in
    ap (λ o. unwrap_or (cell_in q (option_and_then (statement_at file) o)) (Byte 0)) h ∙ ap (λ o. unwrap_or (cell_in q o) (Byte 0)) st

stands_here : (rows : List Row) (s : SymbolName) (p : ℕ) → (g : IsGiven rows s p) → standing (file_of rows) s p ≡ cell_of g.datum (p - g.offset)
stands_here rows s p g = stands rows s p p g g.first

-- A line gives all its bytes

at_row : (o : Option ℕ) (i : ℕ) → is_at o i ≡ true → o ≡ Some i
at_row None i h = absurd (cc)
at_row (Some n) i h = let e : n ≡ i = grind (arith, nat_tests, h) in ap (λ (x : ℕ). Some x) e

abbrev AreFirst : (rows : List Row) (s : SymbolName) (i o : ℕ) → Type 0
AreFirst rows s i o =
    ((file_of rows).first (byte_of s o) ≡ Some i) × ((file_of rows).first (byte_of s (o + 1)) ≡ Some i)
    × ((file_of rows).first (byte_of s (o + 2)) ≡ Some i) × ((file_of rows).first (byte_of s (o + 3)) ≡ Some i)

word_first : (rows : List Row) (s : SymbolName) (i o : ℕ) → list_all (is_new (file_of rows) i) (word_facts s o) ≡ true → AreFirst rows s i o
word_first rows s i o h =
    let file = file_of rows in
    let new : Fact → Bool = is_new file i in
    let a = both (new (byte_of s o)) (list_all new (byte_of s (o + 1) ∷ byte_of s (o + 2) ∷ byte_of s (o + 3) ∷ [])) h in
    let b = both (new (byte_of s (o + 1))) (list_all new (byte_of s (o + 2) ∷ byte_of s (o + 3) ∷ [])) a.1 in
    let c = both (new (byte_of s (o + 2))) (list_all new (byte_of s (o + 3) ∷ [])) b.1 in
    let d = both (new (byte_of s (o + 3))) true c.1 in
    (at_row (file.first (byte_of s o)) i a.0, at_row (file.first (byte_of s (o + 1))) i b.0, at_row (file.first (byte_of s (o + 2))) i c.0, at_row (file.first (byte_of s (o + 3))) i d.0)

new_bytes : (rows : List Row) (i : ℕ) (r : Row) (s : SymbolName) (o : ℕ) (d : Datum) → IsClean (file_of rows) i r → statement_in r.content ≡ Some (statements.Data s o d) → list_all (is_new (file_of rows) i) (datum_bytes s o d) ≡ true
new_bytes rows i r s o d clean is =
    let file = file_of rows in
    let unbroken = subst (λ st. is_broken file i r.place st ≡ false) is clean.unbroken in
    not_false (list_all (is_new file i) (datum_bytes s o d))
    (or_parts (not (list_all (is_new file i) (datum_bytes s o d))) (was_smaller file i (o + width_of d) (file.first (definition s))) unbroken).0

-- Addresses

abbrev IsAddress : Datum → Type 0
IsAddress (data_values.Address u m) = Unit {0}
IsAddress _ = ⊥

start_by : (b : Bool) (at : ℕ) (t u : SymbolName) (o m : ℕ) → (at == 0) ≡ b → cond b (Start t o) Inside ≡ Start u m → (at ≡ 0) × (data_values.Address t o ≡ data_values.Address u m)
start_by true at t u o m e h =
    let zero_at : at ≡ 0 = grind (arith, nat_tests, e) in
    let same : t ≡ u = cc in
    let offset : o ≡ m = cc in
    (zero_at, cc)
start_by false at t u o m e h = absurd (cc)

inside_by : (b : Bool) (at : ℕ) (t : SymbolName) (o : ℕ) → (at == 0) ≡ b → cond b (Start t o) Inside ≡ Inside → (1 ≤ at) × Unit {0}
inside_by true at t o e h = absurd (cc)
inside_by false at t o e h = let positive : 1 ≤ at = grind (arith, nat_tests, e) in (positive, tt)

start_is : (d : Datum) (at : ℕ) (u : SymbolName) (m : ℕ) → cell_of d at ≡ Start u m → (at ≡ 0) × (d ≡ data_values.Address u m)
start_is (data_values.Byte v) at u m h = absurd (cc)
start_is (data_values.Half v) at u m h = absurd (cc)
start_is (data_values.Word v) at u m h = absurd (cc)
start_is (data_values.Address t o) at u m h = start_by (at == 0) at t u o m refl h

inside_is : (d : Datum) (at : ℕ) → cell_of d at ≡ Inside → (1 ≤ at) × IsAddress d
inside_is (data_values.Byte v) at h = absurd (cc)
inside_is (data_values.Half v) at h = absurd (cc)
inside_is (data_values.Word v) at h = absurd (cc)
inside_is (data_values.Address t o) at h = inside_by (at == 0) at t o refl h

-- an address has four bytes at a multiple of 4, inside its data
pub record IsStart (tokens : List Token) (rows : List Row) (s u : SymbolName) (size p : ℕ) : Type 0 where
  pub aligned : p % 4 ≡ 0
  pub second : standing (file_of rows) s (p + 1) ≡ Inside
  pub third : standing (file_of rows) s (p + 2) ≡ Inside
  pub fourth : standing (file_of rows) s (p + 3) ≡ Inside
  pub within : p + 4 ≤ size
  pub listed : IsListed (symbols_of rows) u

-- the symbol is data of a size
abbrev pub HasSize : (rows : List Row) (s : SymbolName) (n size : ℕ) → Type 0
HasSize rows s n size = ((file_of rows).first (definition s) ≡ Some n) × (size_at (file_of rows) n ≡ Some size)

size_reaches : (rows : List Row) (i : ℕ) (r : Row) (s : SymbolName) (o n size : ℕ) (d : Datum) → IsClean (file_of rows) i r → statement_in r.content ≡ Some (statements.Data s o d) → HasSize rows s n size → o + width_of d ≤ size
size_reaches rows i r s o n size d clean is sized =
    let file = file_of rows in
    let ended = subst (λ st. is_unended file i r.place st ≡ false) is clean.ended in
    let known = subst (λ x. is_outside file (o + width_of d) x ≡ false) sized.0 ended in
    let reaches = subst (λ x. is_outside_size x (o + width_of d) ≡ false) sized.1 known in
    grind (arith, nat_tests, reaches)

cell_inside : (u : SymbolName) (m x : ℕ) → 1 ≤ x → cell_of (data_values.Address u m) x ≡ Inside
cell_inside u m x h = let e : (x == 0) ≡ false = grind (arith, nat_tests) in rw e refl

inside_at : (rows : List Row) (s u : SymbolName) (m p q : ℕ) → (g : IsGiven rows s p) → g.datum ≡ data_values.Address u m → g.offset < q → (file_of rows).first (byte_of s q) ≡ Some g.row → standing (file_of rows) s q ≡ Inside
inside_at rows s u m p q g is later h =
    stands rows s p q g h ∙ (ap (λ d. cell_of d (q - g.offset)) is ∙ cell_inside u m (q - g.offset) (omega (arith, later)))

pub content_names : (content : Option Line) → names_of_content content ≡ names_of_statement (statement_in content)
content_names None = refl
content_names (Some line) = refl

-- each symbol of a line's statement is listed
pub statement_listed : (rows : List Row) (i : ℕ) (r : Row) (st : Option Statement) → slice_get rows i ≡ Some r → statement_in r.content ≡ st → Each (IsListed (symbols_of rows)) (names_of_statement st)
statement_listed rows i r st at is =
    subst (λ names. Each (IsListed (symbols_of rows)) names) (content_names r.content ∙ ap names_of_statement is) (row_listed rows i r at)

start_given : (tokens : List Token) (rows : List Row) (s u : SymbolName) (n size m p : ℕ) → IsSound tokens rows → HasSize rows s n size → (g : IsGiven rows s p) → standing (file_of rows) s p ≡ Start u m → IsStart tokens rows s u size p
start_given tokens rows s u n size m p sound sized g h =
    let file = file_of rows in
    let parts = start_is g.datum (p - g.offset) u m (sym (stands_here rows s p g) ∙ h) in
    let here : g.offset ≡ p = omega (arith, parts.0, g.low) in
    let clean = sound.clean g.row g.line g.at in
    let given : statement_in g.line.content ≡ Some (statements.Data s g.offset (data_values.Address u m)) = g.is ∙ ap (λ d. Some (statements.Data s g.offset d)) parts.1 in
    let firsts = word_first rows s g.row g.offset (new_bytes rows g.row g.line s g.offset (data_values.Address u m) clean given) in
    let proper = proper_at tokens rows g.row g.line (statements.Data s g.offset (data_values.Address u m)) sound g.at given in
    let reach = size_reaches rows g.row g.line s g.offset n size (data_values.Address u m) clean given sized in
    let names = statement_listed rows g.row g.line (Some (statements.Data s g.offset (data_values.Address u m))) g.at given in
    record {
      aligned = subst (λ x. x % 4 ≡ 0) here proper.1.1;
      second = subst (λ x. standing file s (x + 1) ≡ Inside) here (inside_at rows s u m p (g.offset + 1) g parts.1 (omega arith) firsts.1);
      third = subst (λ x. standing file s (x + 2) ≡ Inside) here (inside_at rows s u m p (g.offset + 2) g parts.1 (omega arith) firsts.2);
      fourth = subst (λ x. standing file s (x + 3) ≡ Inside) here (inside_at rows s u m p (g.offset + 3) g parts.1 (omega arith) firsts.3);
      within = omega (arith, here, reach);
      listed = names.1.0;
    }

standing_none : (rows : List Row) (s : SymbolName) (p : ℕ) → (file_of rows).first (byte_of s p) ≡ None → standing (file_of rows) s p ≡ Byte 0
unfolding standing
standing_none rows s p h = ap (λ o. unwrap_or (cell_in p (option_and_then (statement_at (file_of rows)) o)) (Byte 0)) h

start_by_first : (tokens : List Token) (rows : List Row) (s u : SymbolName) (n size m p : ℕ) (o : Option ℕ) → (file_of rows).first (byte_of s p) ≡ o → IsSound tokens rows → HasSize rows s n size → standing (file_of rows) s p ≡ Start u m → IsStart tokens rows s u size p
start_by_first tokens rows s u n size m p None e sound sized h = let z = standing_none rows s p e in absurd (cc)
start_by_first tokens rows s u n size m p (Some i) e sound sized h = start_given tokens rows s u n size m p sound sized (given_at rows s p i e) h

start_facts : (tokens : List Token) (rows : List Row) (s u : SymbolName) (n size m p : ℕ) → IsSound tokens rows → HasSize rows s n size → standing (file_of rows) s p ≡ Start u m → IsStart tokens rows s u size p
start_facts tokens rows s u n size m p sound sized h = start_by_first tokens rows s u n size m p ((file_of rows).first (byte_of s p)) refl sound sized h

-- What stands inside an address

inside_by_first : (rows : List Row) (s : SymbolName) (p : ℕ) (o : Option ℕ) → (file_of rows).first (byte_of s p) ≡ o → standing (file_of rows) s p ≡ Inside → IsGiven rows s p
inside_by_first rows s p None e h = let z = standing_none rows s p e in absurd (cc)
inside_by_first rows s p (Some i) e h = given_at rows s p i e

inside_given : (rows : List Row) (s : SymbolName) (p : ℕ) → standing (file_of rows) s p ≡ Inside → IsGiven rows s p
inside_given rows s p h = inside_by_first rows s p ((file_of rows).first (byte_of s p)) refl h

pub record IsLater (tokens : List Token) (rows : List Row) (s : SymbolName) (p : ℕ) : Type 0 where
  pub given : IsGiven rows s p
  pub target : SymbolName
  pub amount : ℕ
  pub address : given.datum ≡ data_values.Address target amount
  pub later : given.offset < p
  pub near : p < given.offset + 4
  pub aligned : given.offset % 4 ≡ 0

later_by : (tokens : List Token) (rows : List Row) (s : SymbolName) (p : ℕ) (d : Datum) → IsSound tokens rows → (g : IsGiven rows s p) → g.datum ≡ d → IsAddress d → g.offset < p → IsLater tokens rows s p
later_by tokens rows s p (data_values.Byte v) sound g is h lt = absurd h
later_by tokens rows s p (data_values.Half v) sound g is h lt = absurd h
later_by tokens rows s p (data_values.Word v) sound g is h lt = absurd h
later_by tokens rows s p (data_values.Address u m) sound g is h lt =
    let given : statement_in g.line.content ≡ Some (statements.Data s g.offset (data_values.Address u m)) = g.is ∙ ap (λ d. Some (statements.Data s g.offset d)) is in
    let proper = proper_at tokens rows g.row g.line (statements.Data s g.offset (data_values.Address u m)) sound g.at given in
    let width : width_of g.datum ≡ 4 = ap width_of is in
    record { given = g; target = u; amount = m; address = is; later = lt; near = omega (arith, width, g.high); aligned = proper.1.1 }

later_at : (tokens : List Token) (rows : List Row) (s : SymbolName) (p : ℕ) → IsSound tokens rows → standing (file_of rows) s p ≡ Inside → IsLater tokens rows s p
later_at tokens rows s p sound h =
    let g = inside_given rows s p h in
    let parts = inside_is g.datum (p - g.offset) (sym (stands_here rows s p g) ∙ h) in
    later_by tokens rows s p g.datum sound g refl parts.1 (omega (arith, parts.0))

first_outside : (tokens : List Token) (rows : List Row) (s : SymbolName) → IsSound tokens rows → standing (file_of rows) s 0 ≡ Inside → ⊥
first_outside tokens rows s sound h = let l = later_at tokens rows s 0 sound h in omega (arith, l.later)

after_start : (tokens : List Token) (rows : List Row) (s : SymbolName) (p : ℕ) → IsSound tokens rows → p % 4 ≡ 0 → standing (file_of rows) s (p + 4) ≡ Inside → ⊥
after_start tokens rows s p sound aligned h = let l = later_at tokens rows s (p + 4) sound h in omega (arith, l.later, l.near, l.aligned, aligned)

no_byte_by : (z : Bool) (u : SymbolName) (m b : ℕ) → cond z (Start u m) Inside ≡ Byte b → ⊥
no_byte_by true u m b h = cc
no_byte_by false u m b h = cc

address_no_byte : (u : SymbolName) (m at b : ℕ) → cell_of (data_values.Address u m) at ≡ Byte b → ⊥
address_no_byte u m at b h = no_byte_by (at == 0) u m b h

first_before : (rows : List Row) (s : SymbolName) (i o p k : ℕ) → p ≡ o + k → k < 3 → AreFirst rows s i o → (file_of rows).first (byte_of s p) ≡ Some i
first_before rows s i o p zero e lt h = let same : o ≡ p = omega (arith, e) in subst (λ x. (file_of rows).first (byte_of s x) ≡ Some i) same h.0
first_before rows s i o p (suc zero) e lt h = let same : o + 1 ≡ p = omega (arith, e) in subst (λ x. (file_of rows).first (byte_of s x) ≡ Some i) same h.1
first_before rows s i o p (suc (suc zero)) e lt h = let same : o + 2 ≡ p = omega (arith, e) in subst (λ x. (file_of rows).first (byte_of s x) ≡ Some i) same h.2
first_before rows s i o p (suc (suc (suc k))) e lt h = absurd (omega (arith, lt))

after_byte : (tokens : List Token) (rows : List Row) (s : SymbolName) (p b : ℕ) → IsSound tokens rows → standing (file_of rows) s p ≡ Byte b → standing (file_of rows) s (p + 1) ≡ Inside → ⊥
after_byte tokens rows s p b sound here h =
    let l = later_at tokens rows s (p + 1) sound h in
    let g = l.given in
    let given : statement_in g.line.content ≡ Some (statements.Data s g.offset (data_values.Address l.target l.amount)) = g.is ∙ ap (λ d. Some (statements.Data s g.offset d)) l.address in
    let firsts = word_first rows s g.row g.offset (new_bytes rows g.row g.line s g.offset (data_values.Address l.target l.amount) (sound.clean g.row g.line g.at) given) in
    let first = first_before rows s g.row g.offset p (p - g.offset) (omega (arith, l.later)) (omega (arith, l.later, l.near)) firsts in
    address_no_byte l.target l.amount (p - g.offset) b (ap (λ d. cell_of d (p - g.offset)) (sym l.address) ∙ (sym (stands rows s (p + 1) p g first) ∙ here))

-- Pieces

pub record IsWellFrom (total place left : ℕ) (ps : List DataPiece) : Type 0 where
  pub filled : Each IsFilled ps
  pub parted : NoRawNeighbours ps
  pub aligned : AddressesAligned place ps
  pub size : pieces_size ps ≡ left
  pub some : 1 ≤ left → 1 ≤ length ps
  pub numbers : Each (λ q. IsWithin total (named_by_piece q)) ps

size_cons : (q : DataPiece) (ps : List DataPiece) → pieces_size (q ∷ ps) ≡ piece_size q + pieces_size ps
size_cons q ps = sum_by-cons piece_size q ps

aligned_at : (a b : ℕ) (ps : List DataPiece) → a ≡ b → AddressesAligned a ps → AddressesAligned b ps
aligned_at a b ps e h = subst (λ x. AddressesAligned x ps) e h

raw_parted : (b : ℕ) (bytes : List ℕ) (rest : List DataPiece) → NoRawNeighbours (piece.Raw bytes ∷ rest) → NoRawNeighbours (piece.Raw (b ∷ bytes) ∷ rest)
raw_parted b bytes [] h = tt
raw_parted b bytes (piece.Raw c ∷ rest) h = h
raw_parted b bytes (piece.Address u m ∷ rest) h = h

byte_well : (total place left b : ℕ) (ps : List DataPiece) → IsWellFrom total (place + 1) left ps → IsWellFrom total place (suc left) (raw_in_front b ps)
byte_well total place left b [] w =
    let none : 0 ≡ left = w.size in
    record { filled = (omega arith, tt); parted = tt; aligned = tt; size = omega (arith, none, size_cons (piece.Raw (b ∷ [])) []); some = λ h. omega arith; numbers = (tt, tt) }
byte_well total place left b (piece.Raw bytes ∷ rest) w =
    record {
      filled = (omega arith, w.filled.1);
      parted = raw_parted b bytes rest w.parted;
      aligned = aligned_at (place + 1 + length bytes) (place + length (b ∷ bytes)) rest (omega arith) w.aligned;
      size = omega (arith, size_cons (piece.Raw (b ∷ bytes)) rest, size_cons (piece.Raw bytes) rest, w.size);
      some = λ h. omega arith;
      numbers = (tt, w.numbers.1);
    }
byte_well total place left b (piece.Address u m ∷ rest) w =
    record {
      filled = (omega arith, w.filled);
      parted = w.parted;
      aligned = w.aligned;
      size = omega (arith, size_cons (piece.Raw (b ∷ [])) (piece.Address u m ∷ rest), w.size);
      some = λ h. omega arith;
      numbers = (tt, w.numbers);
    }

address_well : (total place left k m : ℕ) (ps : List DataPiece) → place % 4 ≡ 0 → k < total → IsWellFrom total (place + 4) left ps → IsWellFrom total place (left + 4) (piece.Address k m ∷ ps)
address_well total place left k m ps e lt w = record {
  filled = (tt, w.filled);
  parted = w.parted;
  aligned = (e, w.aligned);
  size = omega (arith, size_cons (piece.Address k m) ps, w.size);
  some = λ h. omega arith;
  numbers = (lt, w.numbers);
}

skip : (file : File) (s : SymbolName) (p q left : ℕ) → p + 1 ≡ q → standing file s p ≡ Inside → pieces_from file s p (suc left) ≡ pieces_from file s q left
skip file s p q left e h = ap (λ c. in_front file c (pieces_from file s (p + 1) left)) h ∙ ap (λ x. pieces_from file s x left) e

skip_three : (file : File) (s : SymbolName) (p left : ℕ) → standing file s (p + 1) ≡ Inside → standing file s (p + 2) ≡ Inside → standing file s (p + 3) ≡ Inside → pieces_from file s (p + 1) (suc (suc (suc left))) ≡ pieces_from file s (p + 4) left
skip_three file s p left a b c =
    skip file s (p + 1) (p + 2) (suc (suc left)) (omega arith) a ∙ (skip file s (p + 2) (p + 3) (suc left) (omega arith) b ∙ skip file s (p + 3) (p + 4) left (omega arith) c)

well_step : (tokens : List Token) (rows : List Row) (s : SymbolName) (n size p left : ℕ) (c : Cell) → IsSound tokens rows → HasSize rows s n size → standing (file_of rows) s p ≡ c → c ≢ Inside → p + suc left ≡ size → ((q rest : ℕ) → rest ≤ left → q + rest ≡ size → (standing (file_of rows) s q ≢ Inside) → IsWellFrom (length (symbols_of rows)) q rest (pieces_from (file_of rows) s q rest)) → IsWellFrom (length (symbols_of rows)) p (suc left) (pieces_from (file_of rows) s p (suc left))
well_step tokens rows s n size p left (Byte b) sound sized is outside e more =
    let file = file_of rows in
    let total = length (symbols_of rows) in
    subst (λ c. IsWellFrom total p (suc left) (in_front file c (pieces_from file s (p + 1) left))) (sym is)
    (byte_well total p left b (pieces_from file s (p + 1) left) (more (p + 1) left (omega arith) (omega (arith, e)) (after_byte tokens rows s p b sound is)))
well_step tokens rows s n size p left (Start u m) sound sized is outside e more =
    let file = file_of rows in
    let total = length (symbols_of rows) in
    let f = start_facts tokens rows s u n size m p sound sized is in
    let count : suc (suc (suc (left - 3))) ≡ left = omega (arith, f.within, e) in
    let pieces : pieces_from file s (p + 1) left ≡ pieces_from file s (p + 4) (left - 3) =
    ap (pieces_from file s (p + 1)) (sym count) ∙ skip_three file s p (left - 3) f.second f.third f.fourth in
    let well = more (p + 4) (left - 3) (omega (arith, count)) (omega (arith, count, e)) (after_start tokens rows s p sound f.aligned) in
    let all = address_well total p (left - 3) (number_of file u) m (pieces_from file s (p + 4) (left - 3)) f.aligned (number_small (symbols_of rows) u f.listed) well in
    let counted : left - 3 + 4 ≡ suc left = omega (arith, count) in
    subst (λ c. IsWellFrom total p (suc left) (in_front file c (pieces_from file s (p + 1) left))) (sym is)
    (subst (λ ps. IsWellFrom total p (suc left) (piece.Address (number_of file u) m ∷ ps)) (sym pieces)
    (subst (λ x. IsWellFrom total p x (piece.Address (number_of file u) m ∷ pieces_from file s (p + 4) (left - 3))) counted all))
well_step tokens rows s n size p left Inside sound sized is outside e more = absurd (outside refl)

well_from : (tokens : List Token) (rows : List Row) (s : SymbolName) (n size fuel p left : ℕ) → IsSound tokens rows → HasSize rows s n size → left ≤ fuel → p + left ≡ size → (standing (file_of rows) s p ≢ Inside) → IsWellFrom (length (symbols_of rows)) p left (pieces_from (file_of rows) s p left)
well_from tokens rows s n size fuel p zero sound sized le e outside =
    record { filled = tt; parted = tt; aligned = tt; size = refl; some = λ h. absurd (omega (arith, h)); numbers = tt }
well_from tokens rows s n size zero p (suc left) sound sized le e outside = absurd (omega (arith, le))
well_from tokens rows s n size (suc fuel) p (suc left) sound sized le e outside =
    well_step tokens rows s n size p left (standing (file_of rows) s p) sound sized refl outside e
    (λ q rest small sum out. well_from tokens rows s n size fuel q rest sound sized (omega (arith, small, le)) sum out)

pub data_well : (tokens : List Token) (rows : List Row) (s : SymbolName) (n size : ℕ) → IsSound tokens rows → HasSize rows s n size → IsWellFrom (length (symbols_of rows)) 0 size (pieces_from (file_of rows) s 0 size)
data_well tokens rows s n size sound sized =
    well_from tokens rows s n size size 0 size sound sized (omega arith) (omega arith) (first_outside tokens rows s sound)
