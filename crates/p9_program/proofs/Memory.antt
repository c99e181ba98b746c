-- The bytes of data before the first instruction.
use Rattle.std.proofs.Common.{◌≡◌, ◌≤◌, ◌<◌, ℕ, zero, suc, ◌+◌, ◌-◌, ◌*◌, ◌/◌, Some, List, [], ◌∷◌, ◌++◌, length, slice_get, slice_index, refl, sym, ap, ◌∙◌, arith, append_assoc}
use Rattle.std.specs.Prelude.{flat_map, unwrap_or, replicate}
use Rattle.std.proofs.lemmas.List.{get_or_append_left, get_or-append-add, length-append}
use Rattle.std.proofs.lemmas.List.Sums.{sum_by-cons}
use Rattle.p9_base.specs.Core.{Core, text_start, low_end, read_byte}
use Rattle.p9_base.specs.Numbers.{word_bytes}
use Rattle.p9_abs.specs.declared.modules.Body.TheVariants.{Data, Common}
use Rattle.p9_abs.specs.declared.modules.DataPiece.{DataPiece}
use Rattle.p9_abs.specs.declared.modules.DataPiece.TheVariants.{Raw, Address}
use Rattle.p9_abs.specs.declared.modules.Def.{Def}
use Rattle.p9_abs.specs.declared.modules.Symbol as abs
use Rattle.p9_abs.specs.declared.modules.AModule.{AModule}
use Rattle.p9_abs.specs.Modules.{size_of, piece_size, pieces_of, pieces_size}
use Rattle.p9_abs.specs.Names.{symbol_at}
use Rattle.p9_abs.specs.BuiltIn.{linked}
use Rattle.p9_abs.specs.Runs.{Addresses}
use Rattle.p9_abs.specs.Programs.{Numbered, inits_of, bss_of, space_of, init_size, bss_size, Placing, IsPlacing, addresses_of, piece_bytes, zero_bytes, object_bytes, init_bytes, start_core}
use Rattle.p9_systems.proofs.Bytes.{byte-low}
use Rattle.p9_program.specs.Linking.{object_address}
use Rattle.p9_program.specs.Whole.{IsBelow}
use Rattle.p9_program.proofs.Lists.{some-same}
use Rattle.p9_program.proofs.Laying.{laid, offset-first, offset-second, offset-low, flat-length, bytes-at}
use Rattle.p9_program.proofs.Data.{numbered, in-inits, inits-back, HasPlace, place-address}

-- ZEROS

zeros-length : (n : ℕ) → length (replicate {A = ℕ} n 0) ≡ n
zeros-length zero = refl
zeros-length (suc n) = ap suc (zeros-length n)

zeros-index : (n i : ℕ) → slice_index (replicate n 0) i ≡ 0
zeros-index zero i = refl
zeros-index (suc n) zero = refl
zeros-index (suc n) (suc i) = zeros-index n i

pub zero-length : (n : ℕ) → length (zero_bytes n) ≡ n
unfolding zero_bytes
zero-length n = zeros-length n

pub zero-index : (n i : ℕ) → slice_index (zero_bytes n) i ≡ 0
unfolding zero_bytes
zero-index n i = zeros-index n i

-- THE BYTES OF AN OBJECT

word-length : (w : ℕ) → length (word_bytes w) ≡ 4
word-length w = refl

pub pieces-length : (a : ℕ → ℕ) (pieces : List DataPiece) → length (flat_map (piece_bytes a) pieces) ≡ pieces_size pieces
pieces-length a [] = refl
pieces-length a (Raw bytes ∷ pieces) =
    let r = pieces-length a pieces in let l = length-append bytes (flat_map (piece_bytes a) pieces) in let c = sum_by-cons piece_size (Raw bytes) pieces in omega (arith, r, l, c)
pieces-length a (Address symbol offset ∷ pieces) =
    let r = pieces-length a pieces in let c = sum_by-cons piece_size (Address symbol offset) pieces in omega (arith, r, c)

pub data-space : (d : Def) (s : abs.Symbol) (pieces : List DataPiece) → s.body ≡ Data pieces → space_of (numbered d s) ≡ (pieces_size pieces + 3) / 4 * 4
data-space d s pieces e = ap (λ b. space_of (numbered d (record s { body = b }))) e

pub object-bytes-are : (a : ℕ → ℕ → ℕ) (d : Def) (s : abs.Symbol) (pieces : List DataPiece) → s.body ≡ Data pieces
    → object_bytes a (numbered d s) ≡ flat_map (piece_bytes (a d.«module»)) pieces ++ zero_bytes (space_of (numbered d s) - pieces_size pieces)
object-bytes-are a d s pieces e =
    ap (λ b. flat_map (piece_bytes (a d.«module»)) (pieces_of b) ++ zero_bytes (space_of (numbered d s) - unwrap_or (size_of b) 0)) e

object-length : (a : ℕ → ℕ → ℕ) (d : Def) (s : abs.Symbol) (pieces : List DataPiece) → s.body ≡ Data pieces → length (object_bytes a (numbered d s)) ≡ space_of (numbered d s)
object-length a d s pieces e =
    let z = ap length (object-bytes-are a d s pieces e) in
    let l = length-append (flat_map (piece_bytes (a d.«module»)) pieces) (zero_bytes (space_of (numbered d s) - pieces_size pieces)) in
    let n = pieces-length (a d.«module») pieces in
    let y = zero-length (space_of (numbered d s) - pieces_size pieces) in
    let sp = data-space d s pieces e in
    omega (arith, z, l, n, y, sp)

-- the addresses of symbols
abbrev pub symbols : List AModule → Placing → ℕ → ℕ → ℕ
symbols outs p = (let a : Addresses = addresses_of outs p in a.symbol)

module _ (outs : List AModule) (p : Placing) (placing : IsPlacing outs p) (below : List ℕ) (is_below : IsBelow p below) where
  abbrev pub core : Core
  core = start_core outs p below

  abbrev f : Numbered → List ℕ
  f = object_bytes (symbols outs p)

  inits-sizes : (t : ℕ) (q : Numbered) → slice_get (inits_of (linked outs)) t ≡ Some q → length (object_bytes (symbols outs p) q) ≡ space_of q
  inits-sizes t q h = let r = inits-back outs t q h in object-length (symbols outs p) q.def q.symbol r.1.0 r.1.1

  pub init-length : length (init_bytes outs p) ≡ init_size (linked outs)
  init-length = flat-length f (inits_of (linked outs)) inits-sizes

  pub low-is : low_end core ≡ p.data_start + init_size (linked outs) + bss_size (linked outs)
  low-is =
      let a = length-append (below ++ init_bytes outs p) (zero_bytes (bss_size (linked outs))) in
      let b = length-append below (init_bytes outs p) in
      let i = init-length in let z = zero-length (bss_size (linked outs)) in let r = is_below.reach in
      omega (arith, a, b, i, z, r)

  -- byte k of the data
  data-read : (k : ℕ) → k < init_size (linked outs) + bss_size (linked outs) → read_byte core (p.data_start + k) ≡ slice_index (init_bytes outs p ++ zero_bytes (bss_size (linked outs))) k
  data-read k l =
      let r = is_below.reach in let room = placing.room in
      let at : p.data_start + k - text_start ≡ length below + k = omega (arith, r) in
      byte-low core (p.data_start + k) (omega (arith, l, room)) ∙ (ap (slice_index core.low) at ∙ (ap (λ xs. slice_index xs (length below + k)) (append_assoc below (init_bytes outs p) (zero_bytes (bss_size (linked outs))))
      ∙ get_or-append-add below (init_bytes outs p ++ zero_bytes (bss_size (linked outs))) k 0))

  -- the bytes of an object with a first content
  pub data-bytes : (d : Def) (s : abs.Symbol) (pieces : List DataPiece) → symbol_at (linked outs) d ≡ Some s → s.body ≡ Data pieces → (k : HasPlace outs d s) → (i : ℕ) → i < pieces_size pieces
      → read_byte core (object_address outs p (Some (numbered d s)) + i) ≡ slice_index (flat_map (piece_bytes (symbols outs p d.«module»)) pieces) i
  data-bytes d s pieces e b k i l =
      let u = in-inits outs d s pieces e b in
      let q = laid 0 (inits_of (linked outs)) d u.0 (numbered d s) u.1 refl in
      let same : q.offset ≡ k.offset = some-same q.offset k.offset (sym (offset-first 0 (inits_of (linked outs)) (bss_of (linked outs)) d q.offset q.is) ∙ k.is) in
      let sp = data-space d s pieces b in
      let high = q.high in
      let it : space_of q.it ≡ space_of (numbered d s) = space-same q.place q.it q.found q.same in
      let n = init-length in
      let fl = object-length (symbols outs p) d s pieces b in
      let at = place-address outs p placing d s k in
      let where_ : object_address outs p (Some (numbered d s)) + i ≡ p.data_start + (k.offset + i) = omega (arith, at) in
      let zero_off : q.offset - 0 + i ≡ k.offset + i = omega (arith, same) in
      ap (read_byte core) where_
      ∙ (data-read (k.offset + i) (omega (arith, l, sp, high, it, same))
      ∙ (get_or_append_left (init_bytes outs p) (zero_bytes (bss_size (linked outs))) 0 (k.offset + i) (omega (arith, l, sp, high, it, same, n))
      ∙ (ap (slice_index (init_bytes outs p)) (sym zero_off)
      ∙ (bytes-at f 0 (inits_of (linked outs)) d q.offset (object_bytes (symbols outs p) (numbered d s)) inits-sizes same-bytes q.is i (omega (arith, l, sp, fl))
      ∙ (ap (λ xs. slice_index xs i) (object-bytes-are (symbols outs p) d s pieces b)
      ∙ get_or_append_left (flat_map (piece_bytes (symbols outs p d.«module»)) pieces) (zero_bytes (space_of (numbered d s) - pieces_size pieces)) 0 i (let pl = pieces-length (symbols outs p d.«module») pieces in omega (arith, pl, l)))))))
    where
      record-same : (t : ℕ) (q : Numbered) → slice_get (inits_of (linked outs)) t ≡ Some q → q.def ≡ d → q ≡ numbered d s
      record-same t q h w =
          let r = inits-back outs t q h in
          let z : q.symbol ≡ s = some-same q.symbol s (sym r.0 ∙ (ap (symbol_at (linked outs)) w ∙ e)) in
          ap (λ x. record { def = x; symbol = q.symbol }) w ∙ ap (λ x. record { def = d; symbol = x }) z

      space-same : (t : ℕ) (q : Numbered) → slice_get (inits_of (linked outs)) t ≡ Some q → q.def ≡ d → space_of q ≡ space_of (numbered d s)
      space-same t q h w = ap space_of (record-same t q h w)

      same-bytes : (t : ℕ) (q : Numbered) → slice_get (inits_of (linked outs)) t ≡ Some q → q.def ≡ d → object_bytes (symbols outs p) q ≡ object_bytes (symbols outs p) (numbered d s)
      same-bytes t q h w = ap (object_bytes (symbols outs p)) (record-same t q h w)

  -- an object without one is zeros
  pub common-bytes : (d : Def) (s : abs.Symbol) (n : ℕ) → symbol_at (linked outs) d ≡ Some s → s.body ≡ Common n → (k : HasPlace outs d s) → (i : ℕ) → i < n
      → read_byte core (object_address outs p (Some (numbered d s)) + i) ≡ 0
  common-bytes d s n e b k i l =
      let at = place-address outs p placing d s k in
      let where_ : object_address outs p (Some (numbered d s)) + i ≡ p.data_start + (k.offset + i) = omega (arith, at) in
      let second = offset-second 0 (inits_of (linked outs)) (bss_of (linked outs)) d none in
      let low : 0 + init_size (linked outs) ≤ k.offset = offset-low (0 + init_size (linked outs)) (bss_of (linked outs)) d k.offset (sym second ∙ k.is) in
      let high = k.high in
      let sp : space_of (numbered d s) ≡ (n + 3) / 4 * 4 = ap (λ z. space_of (numbered d (record s { body = z }))) b in
      let il = init-length in
      let split_at : k.offset + i ≡ length (init_bytes outs p) + (k.offset + i - init_size (linked outs)) = omega (arith, low, il) in
      ap (read_byte core) where_
      ∙ (data-read (k.offset + i) (omega (arith, l, sp, high))
      ∙ (ap (slice_index (init_bytes outs p ++ zero_bytes (bss_size (linked outs)))) split_at
      ∙ (get_or-append-add (init_bytes outs p) (zero_bytes (bss_size (linked outs))) (k.offset + i - init_size (linked outs)) 0 ∙ zero-index (bss_size (linked outs)) (k.offset + i - init_size (linked outs)))))
    where
      none : (t : ℕ) (q : Numbered) → slice_get (inits_of (linked outs)) t ≡ Some q → q.def ≡ d → ⊥
      none t q h w =
          let r = inits-back outs t q h in
          let z : q.symbol ≡ s = some-same q.symbol s (sym r.0 ∙ (ap (symbol_at (linked outs)) w ∙ e)) in
          let y : Data r.1.0 ≡ Common n = sym r.1.1 ∙ (ap (λ x. x.body) z ∙ b) in
          cc
