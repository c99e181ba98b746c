-- The state before the first instruction holds words and bytes.
use Rattle.std.proofs.Common.{◌≡◌, ◌<◌, ◌⊎◌, inl, inr, ℕ, zero, suc, ◌-◌, ◌/◌, ◌%◌, ◌^◌, Some, List, [], ◌∷◌, ◌++◌, length, slice_get, refl, subst, arith}
use Rattle.std.specs.Prelude.{flat_map, replicate, All, unwrap_or}
use Rattle.std.specs.Prelude.{slice_set, nat_lt, true}
use Rattle.std.specs.List.{list_all}
use Rattle.std.proofs.lemmas.Bool.{and_parts, ltb-true}
use Rattle.std.proofs.lemmas.List.Elements.{All-nil, All-cons, All-append, All-set, All-replicate, All-head, All-tail}
use Rattle.p9_base.specs.Numbers.{word_bytes}
use Rattle.p9_base.specs.Words.{IsWord, word_sum}
use Rattle.p9_base.specs.Core.{stack_end}
use Rattle.p9_base.specs.Holding.{AreBytes, HoldsWords}
use Rattle.p9_abs.specs.declared.modules.DataPiece.{DataPiece}
use Rattle.p9_abs.specs.declared.modules.DataPiece.TheVariants.{Raw, Address}
use Rattle.p9_abs.specs.declared.modules.Def.{Def}
use Rattle.p9_abs.specs.declared.modules.Symbol as abs
use Rattle.p9_abs.specs.declared.modules.AModule.{AModule}
use Rattle.p9_abs.specs.Modules.{size_of, pieces_of}
use Rattle.p9_abs.specs.Names.{symbol_at}
use Rattle.p9_abs.specs.BuiltIn.{builtin_symbols, linked}
use Rattle.p9_abs.specs.Programs.{Numbered, inits_of, bss_size, space_of, Placing, IsPlacing, static_base, piece_bytes, zero_bytes, object_bytes, init_bytes, start_core}
use Rattle.p9_object.specs.Laws.{PieceFits}
use Rattle.p9_lang.specs.Modules.{Source}
use Rattle.p9_program.specs.Linking.{AreTranslations}
use Rattle.p9_program.specs.Whole.{IsBelow}
use Rattle.p9_program.proofs.Lists.{some-same, none-some}
use Rattle.p9_program.proofs.Positions.{found-symbol}
use Rattle.p9_program.proofs.Joined.{linked-either}
use Rattle.p9_program.proofs.Routines.{all-at}
use Rattle.p9_program.proofs.Data.{inits-back}
use Rattle.p9_program.proofs.Memory.{symbols}

abbrev IsByte : ℕ → Type 0
IsByte b = b < 2 ^ 8

pub zero-bytes-are : (n : ℕ) → AreBytes (zero_bytes n)
unfolding zero_bytes
zero-bytes-are n = All-replicate IsByte n 0 (omega arith)

small : (b : ℕ) (bs : List ℕ) → b < 2 ^ 8 → AreBytes bs → AreBytes (b ∷ bs)
small b bs l h = All-cons IsByte b bs l h

none : AreBytes []
none = All-nil IsByte

-- literal bytes
are-small : (bs : List ℕ) → list_all (λ b. nat_lt b 256) bs ≡ true → AreBytes bs
are-small [] h = none
are-small (b ∷ bs) h =
    let q = and_parts (nat_lt b 256) (list_all (λ b. nat_lt b 256) bs) h in
    small b bs (ltb-true b 256 q.0) (are-small bs q.1)

word-bytes-are : (w : ℕ) → AreBytes (word_bytes w)
word-bytes-are w =
    small (w / 2 ^ 24 % 2 ^ 8) (w / 2 ^ 16 % 2 ^ 8 ∷ w / 2 ^ 8 % 2 ^ 8 ∷ w % 2 ^ 8 ∷ []) (omega arith)
    (small (w / 2 ^ 16 % 2 ^ 8) (w / 2 ^ 8 % 2 ^ 8 ∷ w % 2 ^ 8 ∷ []) (omega arith) (small (w / 2 ^ 8 % 2 ^ 8) (w % 2 ^ 8 ∷ []) (omega arith) (small (w % 2 ^ 8) [] (omega arith) none)))

piece-bytes-are : (a : ℕ → ℕ) (q : DataPiece) → PieceFits q → AreBytes (piece_bytes a q)
piece-bytes-are a (Raw bytes) h = h
piece-bytes-are a (Address symbol offset) h = word-bytes-are (word_sum (a symbol) offset)

pieces-bytes-are : (a : ℕ → ℕ) (pieces : List DataPiece) → All PieceFits pieces → AreBytes (flat_map (piece_bytes a) pieces)
pieces-bytes-are a [] h = All-nil IsByte
pieces-bytes-are a (q ∷ pieces) h =
    All-append IsByte (piece_bytes a q) (flat_map (piece_bytes a) pieces) (piece-bytes-are a q (All-head PieceFits q pieces h)) (pieces-bytes-are a pieces (All-tail PieceFits q pieces h))

flat-bytes : (f : Numbered → List ℕ) (rs : List Numbered) → ((t : ℕ) (q : Numbered) → slice_get rs t ≡ Some q → AreBytes (f q)) → AreBytes (flat_map f rs)
flat-bytes f [] h = All-nil IsByte
flat-bytes f (q ∷ rs) h = All-append IsByte (f q) (flat_map f rs) (h 0 q refl) (flat-bytes f rs (λ t r. h (suc t) r))

-- the pieces of the built-in module
builtin-fits : (k : ℕ) (s : abs.Symbol) → slice_get builtin_symbols k ≡ Some s → All PieceFits (pieces_of s.body)
builtin-fits k s e = by k e
  where
    put : (q : abs.Symbol) → Some q ≡ Some s → All PieceFits (pieces_of q.body) → All PieceFits (pieces_of s.body)
    put q h a = subst (λ z. All PieceFits (pieces_of z.body)) (some-same q s h) a

    raw : (bytes : List ℕ) → AreBytes bytes → All PieceFits (Raw bytes ∷ [])
    raw bytes h = All-cons PieceFits (Raw bytes) [] h (All-nil PieceFits)

    by : (k : ℕ) → slice_get builtin_symbols k ≡ Some s → All PieceFits (pieces_of s.body)
    by zero h = put _ h (All-nil PieceFits)
    by (suc zero) h = put _ h (All-cons PieceFits (Address 7 0) (Raw (0 ∷ 0 ∷ 0 ∷ 0 ∷ []) ∷ []) (omega arith) (raw (0 ∷ 0 ∷ 0 ∷ 0 ∷ []) (are-small (0 ∷ 0 ∷ 0 ∷ 0 ∷ []) refl)))
    by (suc (suc zero)) h = put _ h (All-nil PieceFits)
    by (suc (suc (suc zero))) h = put _ h (raw (109 ∷ 97 ∷ 105 ∷ 110 ∷ 0 ∷ []) (are-small (109 ∷ 97 ∷ 105 ∷ 110 ∷ 0 ∷ []) refl))
    by (suc (suc (suc (suc zero)))) h = put _ h (All-nil PieceFits)
    by (suc (suc (suc (suc (suc zero))))) h = put _ h (All-nil PieceFits)
    by (suc (suc (suc (suc (suc (suc zero)))))) h = put _ h (All-nil PieceFits)
    by (suc (suc (suc (suc (suc (suc (suc zero))))))) h =
        put _ h (raw (118 ∷ 46 ∷ 111 ∷ 117 ∷ 116 ∷ 0 ∷ []) (are-small (118 ∷ 46 ∷ 111 ∷ 117 ∷ 116 ∷ 0 ∷ []) refl))
    by (suc (suc (suc (suc (suc (suc (suc (suc k)))))))) h = absurd (none-some s h)

module _ (modules : List Source) (outs : List AModule) (tr : AreTranslations modules outs) (p : Placing) (placing : IsPlacing outs p) (below : List ℕ) (is_below : IsBelow p below) where
  fits : (d : Def) (s : abs.Symbol) → symbol_at (linked outs) d ≡ Some s → All PieceFits (pieces_of s.body)
  fits d s e = by (linked-either outs d s e)
    where
      by : ((d.«module» < length outs) × (symbol_at outs d ≡ Some s)) ⊎ ((d.«module» ≡ length outs) × (slice_get builtin_symbols d.symbol ≡ Some s)) → All PieceFits (pieces_of s.body)
      by (inl h) = let f = found-symbol outs d s h.1 in all-at (λ q. All PieceFits (pieces_of q.body)) f.out.symbols d.symbol s (tr.objects d.«module» f.out f.is_out).fits.pieces f.is_symbol
      by (inr h) = builtin-fits d.symbol s h.1

  object-bytes : (t : ℕ) (q : Numbered) → slice_get (inits_of (linked outs)) t ≡ Some q → AreBytes (object_bytes (symbols outs p) q)
  object-bytes t q h =
      let e = (inits-back outs t q h).0 in
      All-append IsByte (flat_map (piece_bytes (symbols outs p q.def.«module»)) (pieces_of q.symbol.body)) (zero_bytes (space_of q - unwrap_or (size_of q.symbol.body) 0))
      (pieces-bytes-are (symbols outs p q.def.«module») (pieces_of q.symbol.body) (fits q.def q.symbol e)) (zero-bytes-are (space_of q - unwrap_or (size_of q.symbol.body) 0))

  init-bytes-are : AreBytes (init_bytes outs p)
  init-bytes-are = flat-bytes (object_bytes (symbols outs p)) (inits_of (linked outs)) object-bytes

  pub start-words : HoldsWords (start_core outs p below)
  start-words =
      let room = placing.room in
      record {
        count = refl;
        zero_register = refl;
        registers = All-set IsWord (slice_set (replicate 32 0) 29 stack_end) 30 (static_base p.data_start) (omega (arith, room)) (All-set IsWord (replicate 32 0) 29 stack_end (omega arith) (All-replicate IsWord 32 0 (omega arith)));
        high = omega arith;
        less = omega arith;
        low_bytes = All-append IsByte (below ++ init_bytes outs p) (zero_bytes (bss_size (linked outs))) (All-append IsByte below (init_bytes outs p) is_below.bytes init-bytes-are) (zero-bytes-are (bss_size (linked outs)));
        stack_bytes = zero-bytes-are (2 ^ 24);
      }
