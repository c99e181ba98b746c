-- The symbol entries of modules are one for each function and object, and their values rise.
use Rattle.std.proofs.Common.{ℕ, ◌+◌, ◌≡◌, ◌≤◌, ◌<◌, ◌&&◌, Bool, true, false, Option, Some, None, List, [], ◌∷◌, ◌++◌, length, map, refl, sym, ap, ◌∙◌, subst, All, arith, length-append}
use Rattle.std.specs.Prelude.{slice_get, unwrap_or, filter, IfSome}
use Rattle.std.proofs.lemmas.List.{append-nil}
use Rattle.std.proofs.lemmas.List.Elements.{All-head, All-tail, All-weaker}
use Rattle.std.proofs.lemmas.Option.{none-some, same_Some}
use Rattle.p9_base.specs.Core.{text_start}
use Rattle.p9_abs.specs.declared.instructions.TextDef.{TextDef}
use Rattle.p9_abs.specs.declared.instructions.Abs.{Abs}
use Rattle.p9_abs.specs.declared.modules.AModule.{AModule}
use Rattle.p9_abs.specs.declared.modules.Body.{Body}
use Rattle.p9_abs.specs.declared.modules.Body.TheVariants.{Declared, Used, Text, Data, Common}
use Rattle.p9_abs.specs.declared.modules.Symbol.{Symbol}
use Rattle.p9_abs.specs.Modules.{size_of, pieces_size, rounded}
use Rattle.p9_abs.specs.BuiltIn.{linked}
use Rattle.p9_abs.specs.Names.{symbol_at}
use Rattle.p9_abs.specs.Runs.{Routine}
use Rattle.p9_abs.specs.Programs.{Placing, IsFunctionPlaced, Numbered, records, is_data, is_bss, is_common_body, is_its_own, stands_for, inits_of, bss_of, space_of, offset_in, data_objects, init_size, routines_of, routine_number, placed_at}
use Rattle.p9_abs.specs.Validity.{HasSizeInRange, EndsWell, IsValid}
use Rattle.p9_place.specs.declared.placing.Spot.{Spot}
use Rattle.p9_place.specs.Places.{spots, def_of}
use Rattle.p9_place.proofs.Offsets.{inits-placed, bss-placed}
use Rattle.p9_expand.proofs.Valid.{IsSound, all_sound}
use Rattle.p9_refine.proofs.Numbers.{all-at}
use Rattle.p9_refine.proofs.Own.{HasSymbol, symbols-found}
use Rattle.p9_symbols.specs.declared.entries.Section.TheVariants as section
use Rattle.p9_symbols.specs.Entries.{entries_of, routine_def, defs_of, place_of}
use Rattle.p9_symbol_laws.specs.Laws.{RiseFrom, EntriesForEach, EntriesRise}
use Rattle.p9_symbol_laws.proofs.Records.{StandsAt, records-stand, kept, passed, linked-valid, symbol-sized}
use Rattle.p9_symbol_laws.proofs.Functions.{function-number, no-number}
use Rattle.p9_symbol_laws.proofs.Entries.{routines-count, objects-count, PlacedFrom, objects-rise, functions-rise}

-- Counts

routine-stands : (modules : List AModule) (f : ℕ) (r : Routine) → slice_get (routines_of modules) f ≡ Some r → (s : Symbol) × (symbol_at (linked modules) (routine_def r) ≡ Some s)
routine-stands modules f r e = (let h : HasSymbol (linked modules) r = symbols-found modules f r e in (h.symbol, h.stands))

inits-stand : (ms : List AModule) → All (StandsAt ms) (inits_of ms)
inits-stand ms = kept (StandsAt ms) is_data (records ms) (records-stand ms)

bss-stand : (ms : List AModule) → All (StandsAt ms) (bss_of ms)
bss-stand ms = kept (StandsAt ms) (is_bss ms) (records ms) (records-stand ms)

pub entries-for-each : EntriesForEach
entries-for-each modules p =
    let all = linked modules in
    let place = place_of modules p in
    let own = entries_of (symbol_at all) place in
    length-append (own section.Text (map routine_def (routines_of modules))) (own section.Data (defs_of (inits_of all)) ++ own section.Bss (defs_of (bss_of all)))
    ∙ omega (
      arith,
      length-append (own section.Data (defs_of (inits_of all))) (own section.Bss (defs_of (bss_of all))),
      routines-count (symbol_at all) place section.Text (routines_of modules) (routine-stands modules),
      objects-count all place section.Data (inits_of all) (inits-stand all),
      objects-count all place section.Bss (bss_of all) (bss-stand all),
    )

-- Objects

-- a datum or common object has room, and is no function
record IsObject (r : Numbered) : Type 0 where
  room : HasSizeInRange r.symbol.body → 1 ≤ space_of r
  none : (def : TextDef) → r.symbol.body ≡ Text def → ⊥

room-by : (b : Body) (n : ℕ) → size_of b ≡ Some n → HasSizeInRange b → 1 ≤ rounded (unwrap_or (size_of b) 0)
room-by b n e h =
    let small : 1 ≤ n = sized (size_of b) e h in
    let same : unwrap_or (size_of b) 0 ≡ n = ap (λ o. unwrap_or o 0) e in
    omega (arith, small, same)
  where
    sized : (o : Option ℕ) → o ≡ Some n → IfSome o (λ size. (1 ≤ size) × (size ≤ 16777216)) → 1 ≤ n
    sized None e h = absurd (none-some n e)
    sized (Some m) e h = omega (arith, same_Some m n e, h.0)

datum : (r : Numbered) → is_data r ≡ true → IsObject r
datum r h = by r.symbol.body refl h
  where
    by : (b : Body) → r.symbol.body ≡ b → is_data (record { def = r.def; symbol = record r.symbol { body = b } }) ≡ true → IsObject r
    by (Data pieces) e h = record {
      room = λ s. room-by r.symbol.body (pieces_size pieces) (ap size_of e) s;
      none = λ def f. (let z : Data pieces ≡ Text def = sym e ∙ f in cc);
    }
    by (Common size) e h = absurd (let z : false ≡ true = h in cc)
    by Declared e h = absurd (let z : false ≡ true = h in cc)
    by Used e h = absurd (let z : false ≡ true = h in cc)
    by (Text def) e h = absurd (let z : false ≡ true = h in cc)

common : (ms : List AModule) (r : Numbered) → is_bss ms r ≡ true → IsObject r
common ms r h = by r.symbol.body refl (both-first (is_common_body r.symbol.body) (is_its_own r.def (stands_for ms r.def r.symbol)) h)
  where
    both-first : (a b : Bool) → (a && b) ≡ true → a ≡ true
    both-first true b h = refl
    both-first false b h = h

    by : (b : Body) → r.symbol.body ≡ b → is_common_body r.symbol.body ≡ true → IsObject r
    by (Common size) e h = record {
      room = λ s. room-by r.symbol.body size (ap size_of e) s;
      none = λ def f. (let z : Common size ≡ Text def = sym e ∙ f in cc);
    }
    by (Data pieces) e h = absurd (let z : false ≡ true = sym (ap is_common_body e) ∙ h in cc)
    by Declared e h = absurd (let z : false ≡ true = sym (ap is_common_body e) ∙ h in cc)
    by Used e h = absurd (let z : false ≡ true = sym (ap is_common_body e) ∙ h in cc)
    by (Text def) e h = absurd (let z : false ≡ true = sym (ap is_common_body e) ∙ h in cc)

-- objects lie one behind the other
placed-from : (modules : List AModule) (p : Placing) (from : ℕ) (rs : List Numbered) → All IsValid modules → All (StandsAt (linked modules)) rs → All IsObject rs →
    All (λ (s : Spot). offset_in 0 (data_objects (linked modules)) (def_of s) ≡ Some s.offset) (spots from rs) →
    PlacedFrom (place_of modules p) (p.data_start + from) rs
placed-from modules p from [] valid stand objects at = tt
placed-from modules p from (r ∷ rs) valid stand objects at =
    let P : Spot → Type 0 = λ s. offset_in 0 (data_objects (linked modules)) (def_of s) ≡ Some s.offset in
    let first : Spot = record { «module» = r.def.«module»; symbol = r.def.symbol; offset = from } in
    let here : StandsAt (linked modules) r = All-head (StandsAt (linked modules)) r rs stand in
    let object : IsObject r = All-head IsObject r rs objects in
    let none : routine_number (routines_of modules) 0 r.def ≡ None = no-number modules r.def r.symbol here object.none in
    let offset : offset_in 0 (data_objects (linked modules)) r.def ≡ Some from = All-head P first (spots (from + space_of r) rs) at in
    let own : place_of modules p r.def ≡ p.data_start + from =
    ap (placed_at modules p r.def) none ∙ ap (λ o. p.data_start + unwrap_or o 0) offset in
    let size : HasSizeInRange r.symbol.body = symbol-sized (linked modules) r.def r.symbol (linked-valid modules valid) here in
    let rest = placed-from modules p (from + space_of r) rs valid (All-tail (StandsAt (linked modules)) r rs stand) (All-tail IsObject r rs objects) (All-tail P first (spots (from + space_of r) rs) at) in
    (own, object.room size, subst (λ n. PlacedFrom (place_of modules p) n rs) (let z : p.data_start + (from + space_of r) ≡ p.data_start + from + space_of r = omega arith in z) rest)

-- Functions

has-first : (code : List Abs) → EndsWell code → 0 < length code
has-first [] h = absurd h
has-first (a ∷ rest) h = omega arith

pub entries-rise : EntriesRise
entries-rise modules p valid placing =
    let all = linked modules in
    let rs = routines_of modules in
    let place = place_of modules p in
    let bss : (l : ℕ) → l ≤ p.data_start + init_size all → RiseFrom l (entries_of (symbol_at all) place section.Bss (defs_of (bss_of all))) = λ l h.
    subst (RiseFrom l) (append-nil (entries_of (symbol_at all) place section.Bss (defs_of (bss_of all))))
    (objects-rise all place section.Bss (p.data_start + init_size all) l (bss_of all) [] (bss-stand all)
    (placed-from modules p (init_size all) (bss_of all) valid (bss-stand all) (all-of (is_bss all) (λ r e. common all r e)) (bss-placed all)) h (λ m k. tt)) in
    let given : (l : ℕ) → l ≤ p.data_start →
    RiseFrom l (entries_of (symbol_at all) place section.Data (defs_of (inits_of all)) ++ entries_of (symbol_at all) place section.Bss (defs_of (bss_of all))) = λ l h.
    objects-rise all place section.Data (p.data_start + 0) l (inits_of all) (entries_of (symbol_at all) place section.Bss (defs_of (bss_of all))) (inits-stand all)
    (placed-from modules p 0 (inits_of all) valid (inits-stand all) (all-of is_data datum) (inits-placed all)) (omega (arith, h)) (λ m k. bss m (omega (arith, k))) in
    functions-rise (symbol_at all) place section.Text p.function text_start p.data_start rs
    (entries_of (symbol_at all) place section.Data (defs_of (inits_of all)) ++ entries_of (symbol_at all) place section.Bss (defs_of (bss_of all)))
    (λ f r e. (routine-stands modules f r e, ap (placed_at modules p (routine_def r)) (function-number modules f r e), below f r e))
    (λ f g r s l e h. rising f g r s l e h)
    (λ r e. (placing.functions 0 r e).function.1) placing.behind given
  where
    some : (f : ℕ) (r : Routine) → slice_get (routines_of modules) f ≡ Some r → 0 < length r.def.code
    some f r e = (let sound : IsSound r = all-at IsSound (routines_of modules) f r (all_sound modules valid) e in has-first r.def.code sound.ending)

    below : (f : ℕ) (r : Routine) → slice_get (routines_of modules) f ≡ Some r → p.function f < p.data_start
    below f r e =
        let own : IsFunctionPlaced p f r = placing.functions f r e in
        let n = some f r e in
        omega (arith, own.first 0 n, own.before_data 0 n)

    rising : (f g : ℕ) (r s : Routine) → f < g → slice_get (routines_of modules) f ≡ Some r → slice_get (routines_of modules) g ≡ Some s → p.function f < p.function g
    rising f g r s l e h =
        let own : IsFunctionPlaced p f r = placing.functions f r e in
        let n = some f r e in
        omega (arith, own.first 0 n, placing.ordered f g r s l e h 0 n)

    all-of : (test : Numbered → Bool) → ((r : Numbered) → test r ≡ true → IsObject r) → All IsObject (filter test (records (linked modules)))
    all-of test to = All-weaker (λ r. test r ≡ true) IsObject to (filter test (records (linked modules))) (passed test (records (linked modules)))
