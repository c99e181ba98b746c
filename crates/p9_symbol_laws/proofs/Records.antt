-- The record of each symbol stands at its definition.
use Rattle.std.proofs.Common.{ℕ, suc, ◌+◌, ◌≡◌, Bool, true, false, Some, List, [], ◌∷◌, cond, refl, ap, ◌∙◌, subst, All, arith}
use Rattle.std.specs.Prelude.{option_and_then, slice_get, filter}
use Rattle.std.proofs.lemmas.List.Elements.{All-nil, All-cons, All-head, All-tail, All-append}
use Rattle.p9_abs.specs.declared.modules.AModule.{AModule}
use Rattle.p9_abs.specs.declared.modules.Def.{Def}
use Rattle.p9_abs.specs.declared.modules.Symbol.{Symbol}
use Rattle.p9_abs.specs.BuiltIn.{builtin_module, linked}
use Rattle.p9_abs.specs.Names.{symbol_at}
use Rattle.p9_abs.specs.Programs.{Numbered, numbered_from, records_from, records}
use Rattle.p9_abs.specs.Validity.{HasSizeInRange, IsValid}
use Rattle.p9_abs.proofs.BuiltInValid.{builtin_valid}
use Rattle.p9_refine.proofs.Numbers.{all-at}
use Rattle.p9_refine.proofs.Own.{symbol-in}

abbrev pub StandsAt : List AModule → Numbered → Type 0
StandsAt ms r = symbol_at ms r.def ≡ Some r.symbol

numbered-stand : (ms : List AModule) (unit k : ℕ) (ss : List Symbol) →
    ((j : ℕ) (s : Symbol) → slice_get ss j ≡ Some s → symbol_at ms (record { «module» = unit; symbol = k + j }) ≡ Some s) → All (StandsAt ms) (numbered_from unit k ss)
numbered-stand ms unit k [] h = All-nil (StandsAt ms)
numbered-stand ms unit k (s ∷ ss) h =
    All-cons (StandsAt ms) (record { def = record { «module» = unit; symbol = k }; symbol = s }) (numbered_from unit (k + 1) ss)
    (subst (λ n. symbol_at ms (record { «module» = unit; symbol = n }) ≡ Some s) (let e : k + 0 ≡ k = omega arith in e) (h 0 s refl))
    (numbered-stand ms unit (k + 1) ss
    (λ j t e. subst (λ n. symbol_at ms (record { «module» = unit; symbol = n }) ≡ Some t) (let e : k + suc j ≡ k + 1 + j = omega arith in e) (h (suc j) t e)))

module-stands : (ms : List AModule) (unit : ℕ) (m : AModule) → slice_get ms unit ≡ Some m → All (StandsAt ms) (numbered_from unit 0 m.symbols)
module-stands ms unit m e =
    numbered-stand ms unit 0 m.symbols
    (λ j s h. ap (option_and_then (λ (n : AModule). slice_get n.symbols (0 + j))) e ∙ ap (slice_get m.symbols) (let z : 0 + j ≡ j = omega arith in z) ∙ h)

modules-stand : (ms : List AModule) (unit : ℕ) (part : List AModule) → ((i : ℕ) (m : AModule) → slice_get part i ≡ Some m → slice_get ms (unit + i) ≡ Some m) →
    All (StandsAt ms) (records_from unit part)
modules-stand ms unit [] h = All-nil (StandsAt ms)
modules-stand ms unit (m ∷ rest) h =
    All-append (StandsAt ms) (numbered_from unit 0 m.symbols) (records_from (unit + 1) rest)
    (module-stands ms unit m (ap (slice_get ms) (let e : unit ≡ unit + 0 = omega arith in e) ∙ h 0 m refl))
    (modules-stand ms (unit + 1) rest (λ i n e. ap (slice_get ms) (let z : unit + 1 + i ≡ unit + suc i = omega arith in z) ∙ h (suc i) n e))

pub records-stand : (ms : List AModule) → All (StandsAt ms) (records ms)
records-stand ms = modules-stand ms 0 ms (λ i m e. ap (slice_get ms) (let z : 0 + i ≡ i = omega arith in z) ∙ e)

pub kept : (P : Numbered → Type 0) (test : Numbered → Bool) (rs : List Numbered) → All P rs → All P (filter test rs)
kept P test [] h = All-nil P
kept P test (r ∷ rs) h = by (test r) (All-head P r rs h) (kept P test rs (All-tail P r rs h))
  where
    by : (b : Bool) → P r → All P (filter test rs) → All P (cond b (r ∷ filter test rs) (filter test rs))
    by true here later = All-cons P r (filter test rs) here later
    by false here later = later

-- those that pass the test
pub passed : (test : Numbered → Bool) (rs : List Numbered) → All (λ r. test r ≡ true) (filter test rs)
passed test [] = All-nil (λ r. test r ≡ true)
passed test (r ∷ rs) = by (test r) refl (passed test rs)
  where
    by : (b : Bool) → test r ≡ b → All (λ r. test r ≡ true) (filter test rs) → All (λ r. test r ≡ true) (cond b (r ∷ filter test rs) (filter test rs))
    by true e later = All-cons (λ r. test r ≡ true) r (filter test rs) e later
    by false e later = later

-- Sizes

pub linked-valid : (modules : List AModule) → All IsValid modules → All IsValid (linked modules)
linked-valid modules h = All-append IsValid modules (builtin_module ∷ []) h (All-cons IsValid builtin_module [] builtin_valid (All-nil IsValid))

pub symbol-sized : (ms : List AModule) (d : Def) (s : Symbol) → All IsValid ms → symbol_at ms d ≡ Some s → HasSizeInRange s.body
symbol-sized ms d s valid e =
    let m = symbol-in (slice_get ms d.«module») d.symbol s e in
    let here : IsValid m.0 = all-at IsValid ms d.«module» m.0 valid m.1 in
    all-at (λ (x : Symbol). HasSizeInRange x.body) m.0.symbols d.symbol s here.sizes m.2
