-- Where the data objects of a program have their places.
use Rattle.std.proofs.Common.{◌≡◌, ◌≤◌, ◌<◌, ◌⊎◌, inl, inr, ℕ, ◌+◌, ◌%◌, true, Some, List, length, slice_get, refl, sym, ap, ◌∙◌, arith}
use Rattle.std.specs.Prelude.{unwrap_or}
use Rattle.std.proofs.lemmas.Bool.{true≢false, and_parts}
use Rattle.std.proofs.lemmas.List.Sums.{sum_by-append}
use Rattle.p9_base.specs.Core.{stack_start}
use Rattle.p9_abs.specs.declared.instructions.TextDef.{TextDef}
use Rattle.p9_abs.specs.declared.modules.Body as body
use Rattle.p9_abs.specs.declared.modules.Body.TheVariants.{Declared, Used, Text, Data, Common}
use Rattle.p9_abs.specs.declared.modules.DataPiece.{DataPiece}
use Rattle.p9_abs.specs.declared.modules.Def.{Def}
use Rattle.p9_abs.specs.declared.modules.Symbol as abs
use Rattle.p9_abs.specs.declared.modules.AModule.{AModule}
use Rattle.p9_abs.specs.Names.{symbol_at}
use Rattle.p9_abs.specs.BuiltIn.{linked}
use Rattle.p9_abs.specs.Programs.{Numbered, records, stands_for, is_data, is_common_body, is_its_own, is_bss, inits_of, bss_of, space_of, offset_in, data_objects, init_size, bss_size, Placing, IsPlacing, placed_at, address_of_definition}
use Rattle.p9_program.specs.Linking.{object_address}
use Rattle.p9_program.proofs.Lists.{some-same, get-first, get-second, get-either, filter-at, filter-back}
use Rattle.p9_program.proofs.Positions.{symbol-of, record-of}
use Rattle.p9_program.proofs.Routines.{no-number}
use Rattle.p9_program.proofs.Laying.{same-def-self, laid, HasSpace}

abbrev pub numbered : Def → abs.Symbol → Numbered
numbered d s = record { def = d; symbol = s }

pub data-test : (d : Def) (s : abs.Symbol) (pieces : List DataPiece) → s.body ≡ Data pieces → is_data (numbered d s) ≡ true
data-test d s pieces e = ap (λ b. is_data (numbered d (record s { body = b }))) e

pub test-data : (q : Numbered) → is_data q ≡ true → (pieces : List DataPiece) × (q.symbol.body ≡ Data pieces)
test-data q h = by q.symbol.body refl h
  where
    by : (b : body.Body) → q.symbol.body ≡ b → is_data (record q { symbol = record q.symbol { body = b } }) ≡ true → (pieces : List DataPiece) × (q.symbol.body ≡ Data pieces)
    by (Data pieces) e t = (pieces, e)
    by Declared e t = absurd (true≢false (sym t))
    by Used e t = absurd (true≢false (sym t))
    by (Text def) e t = absurd (true≢false (sym t))
    by (Common n) e t = absurd (true≢false (sym t))

pub test-common : (b : body.Body) → is_common_body b ≡ true → (n : ℕ) × (b ≡ Common n)
test-common (Common n) h = (n, refl)
test-common Declared h = absurd (true≢false (sym h))
test-common Used h = absurd (true≢false (sym h))
test-common (Text def) h = absurd (true≢false (sym h))
test-common (Data pieces) h = absurd (true≢false (sym h))

module _ (outs : List AModule) where
  abbrev ms : List AModule
  ms = linked outs

  pub in-inits : (d : Def) (s : abs.Symbol) (pieces : List DataPiece) → symbol_at (linked outs) d ≡ Some s → s.body ≡ Data pieces → (u : ℕ) × (slice_get (inits_of (linked outs)) u ≡ Some (numbered d s))
  in-inits d s pieces e b = let r = record-of ms d s e in filter-at is_data (records ms) r.0 (numbered d s) r.1 (data-test d s pieces b)

  pub in-bss : (d : Def) (s : abs.Symbol) (n : ℕ) → symbol_at (linked outs) d ≡ Some s → s.body ≡ Common n → stands_for (linked outs) d s ≡ Some d → (u : ℕ) × (slice_get (bss_of (linked outs)) u ≡ Some (numbered d s))
  in-bss d s n e b own =
      let r = record-of ms d s e in
      let t : is_bss ms (numbered d s) ≡ true = (let x : is_common_body s.body ≡ true = ap is_common_body b in let y : is_its_own d (stands_for ms d s) ≡ true = ap (is_its_own d) own ∙ same-def-self d d refl in rw (x, y) refl) in
      filter-at (is_bss ms) (records ms) r.0 (numbered d s) r.1 t

  pub inits-back : (u : ℕ) (q : Numbered) → slice_get (inits_of (linked outs)) u ≡ Some q → (symbol_at (linked outs) q.def ≡ Some q.symbol) × ((pieces : List DataPiece) × (q.symbol.body ≡ Data pieces))
  inits-back u q h = let r = filter-back is_data (records ms) u q h in (symbol-of ms r.0 q r.1, test-data q r.2)

  pub bss-back : (u : ℕ) (q : Numbered) → slice_get (bss_of (linked outs)) u ≡ Some q → (symbol_at (linked outs) q.def ≡ Some q.symbol) × ((n : ℕ) × (q.symbol.body ≡ Common n))
  bss-back u q h =
      let r = filter-back (is_bss ms) (records ms) u q h in
      (symbol-of ms r.0 q r.1, test-common q.symbol.body ((and_parts (is_common_body q.symbol.body) (is_its_own q.def (stands_for ms q.def q.symbol)) r.2).0))

  pub data-back : (u : ℕ) (q : Numbered) → slice_get (data_objects (linked outs)) u ≡ Some q → symbol_at (linked outs) q.def ≡ Some q.symbol
  data-back u q h = by (get-either (inits_of ms) (bss_of ms) u q h)
    where
      by : (slice_get (inits_of (linked outs)) u ≡ Some q) ⊎ ((v : ℕ) × (u ≡ length (inits_of (linked outs)) + v) × (slice_get (bss_of (linked outs)) v ≡ Some q)) → symbol_at (linked outs) q.def ≡ Some q.symbol
      by (inl k) = (inits-back u q k).0
      by (inr k) = (bss-back k.0 q k.2).0

  -- the place of a data object
  pub record HasPlace (d : Def) (s : abs.Symbol) : Type 0 where
    pub offset : ℕ
    pub is : offset_in 0 (data_objects (linked outs)) d ≡ Some offset
    pub four : offset % 4 ≡ 0
    pub high : offset + space_of (record { def = d; symbol = s }) ≤ init_size (linked outs) + bss_size (linked outs)

  pub has-space : (d : Def) (s : abs.Symbol) → symbol_at (linked outs) d ≡ Some s → HasSpace (data_objects (linked outs)) d (space_of (numbered d s))
  has-space d s e t q h w =
      let z : q.symbol ≡ s = some-same q.symbol s (sym (data-back t q h) ∙ (ap (symbol_at ms) w ∙ e)) in
      ap space_of (ap (λ i. record { def = i; symbol = q.symbol }) w ∙ ap (λ i. record { def = d; symbol = i }) z)

  place-at : (d : Def) (s : abs.Symbol) (t : ℕ) → symbol_at (linked outs) d ≡ Some s → slice_get (data_objects (linked outs)) t ≡ Some (numbered d s) → HasPlace d s
  place-at d s t e h =
      let k = laid 0 (data_objects ms) d t (numbered d s) h refl in
      let sp = has-space d s e k.place k.it k.found k.same in
      let u = k.high in
      let sum = sum_by-append space_of (inits_of ms) (bss_of ms) in
      record { offset = k.offset; is = k.is; four = k.four refl; high = omega (arith, u, sp, sum) }

  pub data-place : (d : Def) (s : abs.Symbol) (pieces : List DataPiece) → symbol_at (linked outs) d ≡ Some s → s.body ≡ Data pieces → HasPlace d s
  data-place d s pieces e b = let u = in-inits d s pieces e b in place-at d s u.0 e (get-first (inits_of ms) (bss_of ms) u.0 (numbered d s) u.1)

  pub common-place : (d : Def) (s : abs.Symbol) (n : ℕ) → symbol_at (linked outs) d ≡ Some s → s.body ≡ Common n → stands_for (linked outs) d s ≡ Some d → HasPlace d s
  common-place d s n e b own = let u = in-bss d s n e b own in place-at d s (length (inits_of ms) + u.0) e (get-second (inits_of ms) (bss_of ms) u.0 (numbered d s) u.1)

  module _ (p : Placing) (placing : IsPlacing outs p) where
    pub place-address : (d : Def) (s : abs.Symbol) → (k : HasPlace d s) → object_address outs p (Some (numbered d s)) ≡ p.data_start + k.offset
    place-address d s k = ap (λ o. p.data_start + unwrap_or o 0) k.is

    -- a data object's definition has its address
    pub data-address : (d : Def) (s : abs.Symbol) → symbol_at (linked outs) d ≡ Some s → ((def : TextDef) → s.body ≡ Text def → ⊥) → address_of_definition outs p (Some d) ≡ object_address outs p (Some (numbered d s))
    data-address d s e never = ap (placed_at outs p d) (no-number outs d s e never)

    -- it lies in data, at a multiple of 4
    pub record IsInData (d : Def) (s : abs.Symbol) (start : ℕ) : Type 0 where
      pub low : p.data_start ≤ start
      pub high : start + space_of (record { def = d; symbol = s }) ≤ p.data_start + init_size (linked outs) + bss_size (linked outs)
      pub four : start % 4 ≡ 0
      pub below : start < stack_start

    pub in-data : (d : Def) (s : abs.Symbol) → (k : HasPlace d s) → IsInData d s (object_address outs p (Some (numbered d s)))
    in-data d s k =
        let a = place-address d s k in
        let h = k.high in let f = k.four in let pg = placing.page in let room = placing.room in
        record { low = omega (arith, a); high = omega (arith, a, h); four = omega (arith, a, f, pg); below = omega (arith, a, h, room) }
