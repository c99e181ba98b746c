-- The symbols of modules and of their objects stand at the same places, in the order of modules and symbols.
use Rattle.std.proofs.Common.{◌≡◌, ◌≤◌, ◌<◌, ◌⊎◌, inl, inr, ℕ, zero, suc, ◌+◌, Option, Some, None, List, [], ◌∷◌, length, slice_get, refl, sym, ap, ◌∙◌, subst, arith}
use Rattle.std.specs.Prelude.{option_and_then}
use Rattle.p9_abs.specs.declared.modules.Def.{Def}
use Rattle.p9_abs.specs.declared.modules.Symbol as abs
use Rattle.p9_abs.specs.declared.modules.AModule.{AModule}
use Rattle.p9_abs.specs.Names.{symbol_at, IsBefore}
use Rattle.p9_abs.specs.Programs.{Numbered, numbered_from, records_from, records}
use Rattle.p9_lang.specs.Types.{Tags}
use Rattle.p9_lang.specs.Modules.{Source}
use Rattle.p9_lang.specs.Symbols.{Symbol, symbols}
use Rattle.p9_cmean.specs.Union.{Entry, entries_of, entries_from}
use Rattle.p9_program.proofs.Lists.{order, some-same, none-some, get-first, get-second, get-either, get-within, get-some}

-- ONE LIST

-- where the symbols of a module begin
abbrev pub start_in : List Source → ℕ → ℕ
start_in [] unit = 0
start_in (m ∷ ms) zero = 0
start_in (m ∷ ms) (suc unit) = length (symbols m) + start_in ms unit

abbrev pub start_out : List AModule → ℕ → ℕ
start_out [] unit = 0
start_out (m ∷ ms) zero = 0
start_out (m ∷ ms) (suc unit) = length m.symbols + start_out ms unit

entries-count : (owner : ℕ) (tags : Tags) (ss : List Symbol) → length (entries_of owner tags ss) ≡ length ss
entries-count owner tags [] = refl
entries-count owner tags (s ∷ ss) = ap suc (entries-count owner tags ss)

numbered-count : (unit k : ℕ) (ss : List abs.Symbol) → length (numbered_from unit k ss) ≡ length ss
numbered-count unit k [] = refl
numbered-count unit k (s ∷ ss) = ap suc (numbered-count unit (k + 1) ss)

entry-at : (owner : ℕ) (tags : Tags) (ss : List Symbol) (k : ℕ) (a : Symbol) → slice_get ss k ≡ Some a → slice_get (entries_of owner tags ss) k ≡ Some (record { owner = owner; tags = tags; symbol = a })
entry-at owner tags [] k a e = absurd (none-some a e)
entry-at owner tags (s ∷ ss) zero a e = ap (λ z. Some (record { owner = owner; tags = tags; symbol = z })) (some-same s a e)
entry-at owner tags (s ∷ ss) (suc k) a e = entry-at owner tags ss k a e

entry-back : (owner : ℕ) (tags : Tags) (ss : List Symbol) (k : ℕ) (e : Entry) → slice_get (entries_of owner tags ss) k ≡ Some e → (a : Symbol) × (slice_get ss k ≡ Some a) × (e ≡ record { owner = owner; tags = tags; symbol = a })
entry-back owner tags [] k e h = absurd (none-some e h)
entry-back owner tags (s ∷ ss) zero e h = (s, refl, sym (some-same (record { owner = owner; tags = tags; symbol = s }) e h))
entry-back owner tags (s ∷ ss) (suc k) e h = entry-back owner tags ss k e h

record-at : (unit first : ℕ) (ss : List abs.Symbol) (k n : ℕ) (b : abs.Symbol) → n ≡ first + k → slice_get ss k ≡ Some b → slice_get (numbered_from unit first ss) k ≡ Some (record { def = record { «module» = unit; symbol = n }; symbol = b })
record-at unit first [] k n b z e = absurd (none-some b e)
record-at unit first (s ∷ ss) zero n b z e =
    let y : first ≡ n = omega (arith, z) in
    ap (λ i. Some (record { def = record { «module» = unit; symbol = i }; symbol = s })) y ∙ ap (λ q. Some (record { def = record { «module» = unit; symbol = n }; symbol = q })) (some-same s b e)
record-at unit first (s ∷ ss) (suc k) n b z e = record-at unit (first + 1) ss k n b (omega (arith, z)) e

record-back : (unit first : ℕ) (ss : List abs.Symbol) (k : ℕ) (r : Numbered) → slice_get (numbered_from unit first ss) k ≡ Some r → (b : abs.Symbol) × (n : ℕ) × (n ≡ first + k) × (slice_get ss k ≡ Some b) × (r ≡ record { def = record { «module» = unit; symbol = n }; symbol = b })
record-back unit first [] k r h = absurd (none-some r h)
record-back unit first (s ∷ ss) zero r h = (s, first, omega arith, refl, sym (some-same (record { def = record { «module» = unit; symbol = first }; symbol = s }) r h))
record-back unit first (s ∷ ss) (suc k) r h = let q = record-back unit (first + 1) ss k r h in let z = q.2 in (q.0, q.1, omega (arith, z), q.3, q.4)

pub entries-at : (i : ℕ) (ms : List Source) (unit owner k : ℕ) (m : Source) (a : Symbol) → owner ≡ i + unit → slice_get ms unit ≡ Some m → slice_get (symbols m) k ≡ Some a
    → slice_get (entries_from i ms) (start_in ms unit + k) ≡ Some (record { owner = owner; tags = m.tags; symbol = a })
entries-at i [] unit owner k m a z e f = absurd (none-some m e)
entries-at i (n ∷ ms) zero owner k m a z e f =
    let same : n ≡ m = some-same n m e in
    let y : i ≡ owner = omega (arith, z) in
    let q : 0 + k ≡ k = omega arith in
    ap (slice_get (entries_from i (n ∷ ms))) q
    ∙ (get-first (entries_of i n.tags (symbols n)) (entries_from (suc i) ms) k (record { owner = i; tags = n.tags; symbol = a }) (entry-at i n.tags (symbols n) k a (subst (λ s. slice_get (symbols s) k ≡ Some a) (sym same) f))
    ∙ (ap (λ o. Some (record { owner = o; tags = n.tags; symbol = a })) y ∙ ap (λ s. Some (record { owner = owner; tags = s.tags; symbol = a })) same))
entries-at i (n ∷ ms) (suc unit) owner k m a z e f =
    let c = entries-count i n.tags (symbols n) in
    let q : length (symbols n) + start_in ms unit + k ≡ length (entries_of i n.tags (symbols n)) + (start_in ms unit + k) = omega (arith, c) in
    ap (slice_get (entries_from i (n ∷ ms))) q
    ∙ get-second (entries_of i n.tags (symbols n)) (entries_from (suc i) ms) (start_in ms unit + k) (record { owner = owner; tags = m.tags; symbol = a }) (entries-at (suc i) ms unit owner k m a (omega (arith, z)) e f)

pub records-at : (i : ℕ) (ms : List AModule) (unit owner k : ℕ) (m : AModule) (b : abs.Symbol) → owner ≡ i + unit → slice_get ms unit ≡ Some m → slice_get m.symbols k ≡ Some b
    → slice_get (records_from i ms) (start_out ms unit + k) ≡ Some (record { def = record { «module» = owner; symbol = k }; symbol = b })
records-at i [] unit owner k m b z e f = absurd (none-some m e)
records-at i (n ∷ ms) zero owner k m b z e f =
    let same : n ≡ m = some-same n m e in
    let y : i ≡ owner = omega (arith, z) in
    let q : 0 + k ≡ k = omega arith in
    ap (slice_get (records_from i (n ∷ ms))) q
    ∙ (get-first (numbered_from i 0 n.symbols) (records_from (i + 1) ms) k (record { def = record { «module» = i; symbol = k }; symbol = b })
    (record-at i 0 n.symbols k k b (omega arith) (subst (λ s. slice_get s.symbols k ≡ Some b) (sym same) f))
    ∙ ap (λ o. Some (record { def = record { «module» = o; symbol = k }; symbol = b })) y)
records-at i (n ∷ ms) (suc unit) owner k m b z e f =
    let c = numbered-count i 0 n.symbols in
    let q : length n.symbols + start_out ms unit + k ≡ length (numbered_from i 0 n.symbols) + (start_out ms unit + k) = omega (arith, c) in
    ap (slice_get (records_from i (n ∷ ms))) q
    ∙ get-second (numbered_from i 0 n.symbols) (records_from (i + 1) ms) (start_out ms unit + k) (record { def = record { «module» = owner; symbol = k }; symbol = b }) (records-at (i + 1) ms unit owner k m b (omega (arith, z)) e f)

pub record InSources (i : ℕ) (ms : List Source) (t : ℕ) (e : Entry) : Type 0 where
  pub unit : ℕ
  pub symbol : ℕ
  pub source : Source
  pub place : t ≡ start_in ms unit + symbol
  pub is_source : slice_get ms unit ≡ Some source
  pub is_symbol : slice_get (symbols source) symbol ≡ Some e.symbol
  pub owner : e.owner ≡ i + unit
  pub tags : e.tags ≡ source.tags

pub entries-back : (i : ℕ) (ms : List Source) (t : ℕ) (e : Entry) → slice_get (entries_from i ms) t ≡ Some e → InSources i ms t e
entries-back i [] t e h = absurd (none-some e h)
entries-back i (m ∷ ms) t e h = by (get-either (entries_of i m.tags (symbols m)) (entries_from (suc i) ms) t e h) (λ u g. entries-back (suc i) ms u e g)
  where
    first : (a : Symbol) × (slice_get (symbols m) t ≡ Some a) × (e ≡ record { owner = i; tags = m.tags; symbol = a }) → InSources i (m ∷ ms) t e
    first q = record {
      unit = 0;
      symbol = t;
      source = m;
      place = omega arith;
      is_source = refl;
      is_symbol = q.1 ∙ ap (λ z. Some z.symbol) (sym q.2);
      owner = ap (λ z. z.owner) q.2 ∙ (let n : i ≡ i + 0 = omega arith in n);
      tags = ap (λ z. z.tags) q.2;
    }

    later : (u : ℕ) → t ≡ length (entries_of i m.tags (symbols m)) + u → InSources (suc i) ms u e → InSources i (m ∷ ms) t e
    later u z r =
        let c = entries-count i m.tags (symbols m) in let pl = r.place in let ow = r.owner in
        record { unit = suc r.unit; symbol = r.symbol; source = r.source; place = omega (arith, z, c, pl); is_source = r.is_source; is_symbol = r.is_symbol; owner = omega (arith, ow); tags = r.tags }

    by : (slice_get (entries_of i m.tags (symbols m)) t ≡ Some e) ⊎ ((u : ℕ) × (t ≡ length (entries_of i m.tags (symbols m)) + u) × (slice_get (entries_from (suc i) ms) u ≡ Some e))
        → ((u : ℕ) → slice_get (entries_from (suc i) ms) u ≡ Some e → InSources (suc i) ms u e) → InSources i (m ∷ ms) t e
    by (inl g) rec = first (entry-back i m.tags (symbols m) t e g)
    by (inr g) rec = later g.0 g.1 (rec g.0 g.2)

pub record InOuts (i : ℕ) (ms : List AModule) (t : ℕ) (r : Numbered) : Type 0 where
  pub unit : ℕ
  pub out : AModule
  pub place : t ≡ start_out ms unit + r.def.symbol
  pub is_out : slice_get ms unit ≡ Some out
  pub is_symbol : slice_get out.symbols r.def.symbol ≡ Some r.symbol
  pub owner : r.def.«module» ≡ i + unit

pub records-back : (i : ℕ) (ms : List AModule) (t : ℕ) (r : Numbered) → slice_get (records_from i ms) t ≡ Some r → InOuts i ms t r
records-back i [] t r h = absurd (none-some r h)
records-back i (m ∷ ms) t r h = by (get-either (numbered_from i 0 m.symbols) (records_from (i + 1) ms) t r h) (λ u g. records-back (i + 1) ms u r g)
  where
    first : (b : abs.Symbol) × (n : ℕ) × (n ≡ 0 + t) × (slice_get m.symbols t ≡ Some b) × (r ≡ record { def = record { «module» = i; symbol = n }; symbol = b }) → InOuts i (m ∷ ms) t r
    first q =
        let z = q.2 in
        let s : r.def.symbol ≡ t = ap (λ z. z.def.symbol) q.4 ∙ (let n : q.1 ≡ t = omega (arith, z) in n) in
        record {
          unit = 0;
          out = m;
          place = omega (arith, s);
          is_out = refl;
          is_symbol = ap (slice_get m.symbols) s ∙ (q.3 ∙ ap (λ z. Some z.symbol) (sym q.4));
          owner = ap (λ z. z.def.«module») q.4 ∙ (let n : i ≡ i + 0 = omega arith in n);
        }

    later : (u : ℕ) → t ≡ length (numbered_from i 0 m.symbols) + u → InOuts (i + 1) ms u r → InOuts i (m ∷ ms) t r
    later u z q =
        let c = numbered-count i 0 m.symbols in let pl = q.place in let ow = q.owner in
        record { unit = suc q.unit; out = q.out; place = omega (arith, z, c, pl); is_out = q.is_out; is_symbol = q.is_symbol; owner = omega (arith, ow) }

    by : (slice_get (numbered_from i 0 m.symbols) t ≡ Some r) ⊎ ((u : ℕ) × (t ≡ length (numbered_from i 0 m.symbols) + u) × (slice_get (records_from (i + 1) ms) u ≡ Some r))
        → ((u : ℕ) → slice_get (records_from (i + 1) ms) u ≡ Some r → InOuts (i + 1) ms u r) → InOuts i (m ∷ ms) t r
    by (inl g) rec = first (record-back i 0 m.symbols t r g)
    by (inr g) rec = later g.0 g.1 (rec g.0 g.2)

-- BOTH LISTS

abbrev pub SameShape : List Source → List AModule → Type 0
SameShape [] [] = Unit {0}
SameShape [] (o ∷ os) = ⊥
SameShape (m ∷ ms) [] = ⊥
SameShape (m ∷ ms) (o ∷ os) = (length o.symbols ≡ length (symbols m)) × SameShape ms os

pub shape-of : (ms : List Source) (os : List AModule) → length os ≡ length ms → ((i : ℕ) (m : Source) (o : AModule) → slice_get ms i ≡ Some m → slice_get os i ≡ Some o → length o.symbols ≡ length (symbols m)) → SameShape ms os
shape-of [] [] c h = tt
shape-of [] (o ∷ os) c h = absurd (omega (arith, c))
shape-of (m ∷ ms) [] c h = absurd (omega (arith, c))
shape-of (m ∷ ms) (o ∷ os) c h = (h 0 m o refl refl, shape-of ms os (omega (arith, c)) (λ i n q e f. h (suc i) n q e f))

pub starts-same : (ms : List Source) (os : List AModule) → SameShape ms os → (unit : ℕ) → start_out os unit ≡ start_in ms unit
starts-same [] [] s unit = refl
starts-same [] (o ∷ os) s unit = absurd s
starts-same (m ∷ ms) [] s unit = absurd s
starts-same (m ∷ ms) (o ∷ os) s zero = refl
starts-same (m ∷ ms) (o ∷ os) s (suc unit) = let r = starts-same ms os s.1 unit in let l = s.0 in omega (arith, r, l)

start-less : (os : List AModule) (j i : ℕ) (o : AModule) → slice_get os j ≡ Some o → j < i → start_out os j + length o.symbols ≤ start_out os i
start-less [] j i o e h = absurd (none-some o e)
start-less (p ∷ os) zero zero o e h = absurd (omega (arith, h))
start-less (p ∷ os) zero (suc i) o e h = let z : length p.symbols ≡ length o.symbols = ap (λ q. length q.symbols) (some-same p o e) in omega (arith, z)
start-less (p ∷ os) (suc j) zero o e h = absurd (omega (arith, h))
start-less (p ∷ os) (suc j) (suc i) o e h = let r = start-less os j i o e (omega (arith, h)) in omega (arith, r)

-- records are in the order of their definitions
pub records-ordered : (os : List AModule) (t u : ℕ) (r q : Numbered) → slice_get (records os) t ≡ Some r → slice_get (records os) u ≡ Some q → t < u → IsBefore r.def q.def
records-ordered os t u r q e f l = by (records-back 0 os t r e) (records-back 0 os u q f)
  where
    by : InOuts 0 os t r → InOuts 0 os u q → IsBefore r.def q.def
    by a b =
        let ap_ = a.place in let bp = b.place in let ao = a.owner in let bo = b.owner in
        let ak = get-within a.out.symbols r.def.symbol r.symbol a.is_symbol in
        let bk = get-within b.out.symbols q.def.symbol q.symbol b.is_symbol in
        go (order a.unit b.unit)
      where
        go : (a.unit < b.unit) ⊎ ((a.unit ≡ b.unit) ⊎ (b.unit < a.unit)) → IsBefore r.def q.def
        go (inl h) = let ao = a.owner in let bo = b.owner in inl (omega (arith, h, ao, bo))
        go (inr (inl h)) =
            let ao = a.owner in let bo = b.owner in let pa = a.place in let pb = b.place in
            let s : start_out os a.unit ≡ start_out os b.unit = ap (start_out os) h in
            inr (omega (arith, h, ao, bo), omega (arith, pa, pb, s, l))
        go (inr (inr h)) =
            let pa = a.place in let pb = b.place in
            let bk = get-within b.out.symbols q.def.symbol q.symbol b.is_symbol in
            let s = start-less os b.unit a.unit b.out b.is_out h in
            absurd (omega (arith, pa, pb, s, bk, l))

pub before-itself : (d : Def) → IsBefore d d → ⊥
before-itself d (inl h) = omega (arith, h)
before-itself d (inr h) = let l = h.1 in omega (arith, l)

pub before-both : (d e : Def) → IsBefore d e → IsBefore e d → ⊥
before-both d e (inl h) (inl k) = omega (arith, h, k)
before-both d e (inl h) (inr k) = let z = k.0 in omega (arith, h, z)
before-both d e (inr h) (inl k) = let z = h.0 in omega (arith, k, z)
before-both d e (inr h) (inr k) = let a = h.1 in let b = k.1 in omega (arith, a, b)

-- where one definition stands before another, so does its record
pub place-before : (os : List AModule) (t u : ℕ) (r q : Numbered) → slice_get (records os) t ≡ Some r → slice_get (records os) u ≡ Some q → IsBefore r.def q.def → t < u
place-before os t u r q e f b = by (order t u)
  where
    by : (t < u) ⊎ ((t ≡ u) ⊎ (u < t)) → t < u
    by (inl h) = h
    by (inr (inl h)) = absurd (before-itself q.def (subst (λ z. IsBefore z.def q.def) (some-same r q (sym e ∙ (ap (slice_get (records os)) h ∙ f))) b))
    by (inr (inr h)) = absurd (before-both r.def q.def b (records-ordered os u t q r f e h))

-- different places have different definitions
pub places-differ : (os : List AModule) (t u : ℕ) (r q : Numbered) → slice_get (records os) t ≡ Some r → slice_get (records os) u ≡ Some q → r.def ≡ q.def → t ≡ u
places-differ os t u r q e f same = by (order t u)
  where
    by : (t < u) ⊎ ((t ≡ u) ⊎ (u < t)) → t ≡ u
    by (inl h) = absurd (before-itself q.def (subst (λ z. IsBefore z q.def) same (records-ordered os t u r q e f h)))
    by (inr (inl h)) = h
    by (inr (inr h)) = absurd (before-itself r.def (subst (λ z. IsBefore z r.def) (sym same) (records-ordered os u t q r f e h)))

-- an entry and a record, by their module and symbol
pub record Stands (modules : List Source) (outs : List AModule) (t : ℕ) (e : Entry) (r : Numbered) : Type 0 where
  pub source : Source
  pub out : AModule
  pub is_entry : slice_get (entries_from 0 modules) t ≡ Some e
  pub is_record : slice_get (records outs) t ≡ Some r
  pub is_source : slice_get modules r.def.«module» ≡ Some source
  pub is_out : slice_get outs r.def.«module» ≡ Some out
  pub in_source : slice_get (symbols source) r.def.symbol ≡ Some e.symbol
  pub in_out : slice_get out.symbols r.def.symbol ≡ Some r.symbol
  pub owner : e.owner ≡ r.def.«module»
  pub tags : e.tags ≡ source.tags

module _ (modules : List Source) (outs : List AModule) (count : length outs ≡ length modules) (shape : SameShape modules outs)
    (same : (i : ℕ) (m : Source) (o : AModule) → slice_get modules i ≡ Some m → slice_get outs i ≡ Some o → length o.symbols ≡ length (symbols m)) where
  pub stands-of : (i k : ℕ) (m : Source) (o : AModule) (a : Symbol) (b : abs.Symbol) → slice_get modules i ≡ Some m → slice_get outs i ≡ Some o → slice_get (symbols m) k ≡ Some a → slice_get o.symbols k ≡ Some b
      → (t : ℕ) × Stands modules outs t (record { owner = i; tags = m.tags; symbol = a }) (record { def = record { «module» = i; symbol = k }; symbol = b })
  stands-of i k m o a b em eo ea eb =
      let s = starts-same modules outs shape i in
      let z : start_in modules i + k ≡ start_out outs i + k = omega (arith, s) in (
        start_out outs i + k,
        record {
          source = m;
          out = o;
          is_entry = ap (slice_get (entries_from 0 modules)) (sym z) ∙ entries-at 0 modules i i k m a (omega arith) em ea;
          is_record = records-at 0 outs i i k o b (omega arith) eo eb;
          is_source = em;
          is_out = eo;
          in_source = ea;
          in_out = eb;
          owner = refl;
          tags = refl;
        },
      )

  pub stands-entry : (t : ℕ) (e : Entry) → slice_get (entries_from 0 modules) t ≡ Some e → (r : Numbered) × Stands modules outs t e r
  stands-entry t e h = by (entries-back 0 modules t e h)
    where
      by : InSources 0 modules t e → (r : Numbered) × Stands modules outs t e r
      by q =
          let unit_in = get-within modules q.unit q.source q.is_source in
          let o = get-some outs q.unit (omega (arith, unit_in, count)) in
          let l = same q.unit q.source o.0 q.is_source o.1 in
          let symbol_in = get-within (symbols q.source) q.symbol e.symbol q.is_symbol in
          let b = get-some o.0.symbols q.symbol (omega (arith, symbol_in, l)) in
          let s = starts-same modules outs shape q.unit in
          let pl = q.place in let ow = q.owner in
          let z : t ≡ start_out outs q.unit + q.symbol = omega (arith, pl, s) in (
            record { def = record { «module» = q.unit; symbol = q.symbol }; symbol = b.0 },
            record {
              source = q.source;
              out = o.0;
              is_entry = h;
              is_record = ap (slice_get (records outs)) z ∙ records-at 0 outs q.unit q.unit q.symbol o.0 b.0 (omega arith) o.1 b.1;
              is_source = q.is_source;
              is_out = o.1;
              in_source = q.is_symbol;
              in_out = b.1;
              owner = omega (arith, ow);
              tags = q.tags;
            },
          )

-- the symbol of a record is that of its definition
pub symbol-of : (os : List AModule) (t : ℕ) (r : Numbered) → slice_get (records os) t ≡ Some r → symbol_at os r.def ≡ Some r.symbol
symbol-of os t r e = by (records-back 0 os t r e)
  where
    by : InOuts 0 os t r → symbol_at os r.def ≡ Some r.symbol
    by q =
        let ow = q.owner in
        let z : r.def.«module» ≡ q.unit = omega (arith, ow) in
        ap (λ i. option_and_then (λ m. slice_get m.symbols r.def.symbol) (slice_get os i)) z ∙ (ap (option_and_then (λ m. slice_get m.symbols r.def.symbol)) q.is_out ∙ q.is_symbol)

pub record Found (os : List AModule) (d : Def) (b : abs.Symbol) : Type 0 where
  pub out : AModule
  pub is_out : slice_get os d.«module» ≡ Some out
  pub is_symbol : slice_get out.symbols d.symbol ≡ Some b

pub found-symbol : (os : List AModule) (d : Def) (b : abs.Symbol) → symbol_at os d ≡ Some b → Found os d b
found-symbol os d b e = by (slice_get os d.«module») refl e
  where
    by : (o : Option AModule) → slice_get os d.«module» ≡ o → option_and_then (λ m. slice_get m.symbols d.symbol) o ≡ Some b → Found os d b
    by None z e = absurd (none-some b e)
    by (Some m) z e = record { out = m; is_out = z; is_symbol = e }

pub record-of : (os : List AModule) (d : Def) (b : abs.Symbol) → symbol_at os d ≡ Some b → (t : ℕ) × (slice_get (records os) t ≡ Some (record { def = d; symbol = b }))
record-of os d b e = let f = found-symbol os d b e in (start_out os d.«module» + d.symbol, records-at 0 os d.«module» d.«module» d.symbol f.out b (omega arith) f.is_out f.is_symbol)
