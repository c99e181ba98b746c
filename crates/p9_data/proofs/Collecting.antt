-- The bytes of data as they are collected.
use Rattle.std.proofs.Common.{ℕ, suc, ◌+◌, ◌-◌, ◌*◌, ◌/◌, ◌%◌, ◌≡◌, ◌<◌, ◌≤◌, List, [], ◌∷◌, ◌++◌, length, refl, sym, ap, ◌∙◌, arith, append_assoc, length-append}
use Rattle.std.specs.Prelude.{flat_map, filter, unwrap_or}
use Rattle.std.proofs.lemmas.List.{append-nil}
use Rattle.std.proofs.lemmas.List.Elements.{filter-append}
use Rattle.std.proofs.lemmas.List.Sums.{sum_by-cons}
use Rattle.std.proofs.lemmas.Grind.{flat_map-append}
use Rattle.p9_base.specs.Numbers.{word_bytes}
use Rattle.p9_base.specs.Words.{word_sum}
use Rattle.p9_abs.specs.declared.modules.DataPiece.{DataPiece}
use Rattle.p9_abs.specs.declared.modules.DataPiece.TheVariants.{Raw, Address}
use Rattle.p9_abs.specs.declared.modules.Symbol.{Symbol}
use Rattle.p9_abs.specs.declared.modules.AModule.{AModule}
use Rattle.p9_abs.specs.Modules.{piece_size, pieces_size, rounded}
use Rattle.p9_abs.specs.BuiltIn.{builtin_module, linked}
use Rattle.p9_abs.specs.Programs.{Numbered, numbered_from, records_from, records, is_data, piece_bytes, object_bytes, zero_bytes}
use Rattle.p9_place.proofs.Collecting.{records_from-append}
use Rattle.p9_image.specs.Text.{address_at}
use Rattle.p9_data.specs.Data.{one_record, records_bytes}

-- Sizes

piece-length : (address : ℕ → ℕ) (p : DataPiece) → length (piece_bytes address p) ≡ piece_size p
piece-length address (Raw bytes) = refl
piece-length address (Address symbol offset) = refl

pub pieces-length : (address : ℕ → ℕ) (ps : List DataPiece) → length (flat_map (piece_bytes address) ps) ≡ pieces_size ps
pieces-length address [] = refl
pieces-length address (p ∷ ps) =
    length-append (piece_bytes address p) (flat_map (piece_bytes address) ps)
    ∙ omega (arith, piece-length address p, pieces-length address ps, sum_by-cons piece_size p ps)

-- so many zeros fill up to a multiple of 4
pub filled_up : (size : ℕ) → (4 - size % 4) % 4 ≡ rounded size - size
filled_up size = omega arith

-- an object behind other bytes
pub object_pushed : (address : ℕ → ℕ) (ps : List DataPiece) (old mid new : List ℕ) (size count : ℕ) →
    mid ≡ old ++ flat_map (piece_bytes address) ps → size ≡ length mid - length old → count ≡ (4 - size % 4) % 4 → new ≡ mid ++ zero_bytes count →
    new ≡ old ++ (flat_map (piece_bytes address) ps ++ zero_bytes (rounded (pieces_size ps) - pieces_size ps))
object_pushed address ps old mid new size count e f g h =
    let long : length mid ≡ length old + pieces_size ps = ap length e ∙ length-append old (flat_map (piece_bytes address) ps) ∙ ap (λ n. length old + n) (pieces-length address ps) in
    let same : size ≡ pieces_size ps = omega (arith, f, long) in
    let up : count ≡ rounded (pieces_size ps) - pieces_size ps = g ∙ ap (λ n. (4 - n % 4) % 4) same ∙ filled_up (pieces_size ps) in
    h ∙ ap (λ l. l ++ zero_bytes count) e ∙ append_assoc old (flat_map (piece_bytes address) ps) (zero_bytes count)
    ∙ ap (λ n. old ++ (flat_map (piece_bytes address) ps ++ zero_bytes n)) up

-- Records

pub records-append : (tables : List (List ℕ)) (xs ys : List Numbered) → records_bytes tables (xs ++ ys) ≡ records_bytes tables xs ++ records_bytes tables ys
records-append tables xs ys =
    ap (flat_map (object_bytes (address_at tables))) (filter-append is_data xs ys)
    ∙ flat_map-append (object_bytes (address_at tables)) (filter is_data xs) (filter is_data ys)

-- after some records
collected_more : (tables : List (List ℕ)) (done more all : List ℕ) (xs ys : List Numbered) →
    more ≡ done ++ records_bytes tables xs → done ++ records_bytes tables (xs ++ ys) ≡ all → more ++ records_bytes tables ys ≡ all
collected_more tables done more all xs ys e h =
    ap (λ l. l ++ records_bytes tables ys) e ∙ append_assoc done (records_bytes tables xs) (records_bytes tables ys)
    ∙ ap (λ l. done ++ l) (sym (records-append tables xs ys)) ∙ h

-- after one symbol
pub symbols_turn : (tables : List (List ℕ)) (unit next : ℕ) (s : Symbol) (rest after : List Symbol) (done more all : List ℕ) →
    rest ≡ s ∷ after → more ≡ done ++ records_bytes tables (one_record (record { «module» = unit; symbol = next }) s) →
    done ++ records_bytes tables (numbered_from unit next rest) ≡ all →
    more ++ records_bytes tables (numbered_from unit (next + 1) after) ≡ all
symbols_turn tables unit next s rest after done more all e m h =
    collected_more tables done more all (one_record (record { «module» = unit; symbol = next }) s) (numbered_from unit (next + 1) after) m
    (ap (λ l. done ++ records_bytes tables (numbered_from unit next l)) (sym e) ∙ h)

-- after one module
pub modules_turn : (tables : List (List ℕ)) (n : ℕ) (m : AModule) (symbols : List Symbol) (rest after : List AModule) (done more all : List ℕ) →
    rest ≡ m ∷ after → symbols ≡ m.symbols → more ≡ done ++ records_bytes tables (numbered_from n 0 symbols) →
    done ++ records_bytes tables (records_from n rest) ≡ all →
    more ++ records_bytes tables (records_from (n + 1) after) ≡ all
modules_turn tables n m symbols rest after done more all e same made h =
    collected_more tables done more all (numbered_from n 0 m.symbols) (records_from (n + 1) after)
    (made ∙ ap (λ l. done ++ records_bytes tables (numbered_from n 0 l)) same)
    (ap (λ l. done ++ records_bytes tables (records_from n l)) (sym e) ∙ h)

-- the built-in module comes last
records-linked : (ms : List AModule) → records (linked ms) ≡ records_from 0 ms ++ numbered_from (length ms) 0 builtin_module.symbols
records-linked ms =
    records_from-append 0 ms (builtin_module ∷ [])
    ∙ ap (λ l. records_from 0 ms ++ l) (append-nil (numbered_from (0 + length ms) 0 builtin_module.symbols))
    ∙ ap (λ n. records_from 0 ms ++ numbered_from n 0 builtin_module.symbols) (let e : 0 + length ms ≡ length ms = omega arith in e)

pub collected_all : (tables : List (List ℕ)) (ms : List AModule) (last : List Symbol) (n : ℕ) (rest : List AModule) (done made : List ℕ) →
    last ≡ builtin_module.symbols → length rest < 1 → n + length rest ≡ length ms →
    done ++ records_bytes tables (records_from n rest) ≡ records_bytes tables (records_from 0 ms) →
    made ≡ done ++ records_bytes tables (numbered_from n 0 last) →
    made ≡ records_bytes tables (records (linked ms))
collected_all tables ms last n (m ∷ rest) done made e few count h made_is = absurd (omega arith)
collected_all tables ms last n [] done made e few count h m =
    let number : n ≡ length ms = omega (arith, count) in
    let before : done ≡ records_bytes tables (records_from 0 ms) = sym (append-nil done) ∙ h in
    m ∙ ap (λ l. l ++ records_bytes tables (numbered_from n 0 last)) before
    ∙ ap (λ l. records_bytes tables (records_from 0 ms) ++ records_bytes tables (numbered_from n 0 l)) e
    ∙ ap (λ k. records_bytes tables (records_from 0 ms) ++ records_bytes tables (numbered_from k 0 builtin_module.symbols)) number
    ∙ sym (records-append tables (records_from 0 ms) (numbered_from (length ms) 0 builtin_module.symbols))
    ∙ ap (records_bytes tables) (sym (records-linked ms))
