-- Entries of definitions whose records stand, and whose addresses rise.
use Rattle.std.proofs.Common.{ℕ, suc, ◌+◌, ◌≡◌, ◌≤◌, ◌<◌, Option, Some, List, [], ◌∷◌, ◌++◌, length, map, sum_by, refl, sym, ap, ◌∙◌, subst, All, arith, length-append}
use Rattle.std.specs.Prelude.{slice_get}
use Rattle.std.proofs.lemmas.List.Elements.{All-head, All-tail}
use Rattle.std.proofs.lemmas.List.Sums.{sum_by-cons}
use Rattle.p9_abs.specs.declared.modules.AModule.{AModule}
use Rattle.p9_abs.specs.declared.modules.Def.{Def}
use Rattle.p9_abs.specs.declared.modules.Symbol.{Symbol}
use Rattle.p9_abs.specs.Names.{symbol_at}
use Rattle.p9_abs.specs.Runs.{Routine}
use Rattle.p9_abs.specs.Programs.{Numbered, space_of}
use Rattle.p9_aout.specs.declared.format.AoutSym.{AoutSym}
use Rattle.p9_symbols.specs.declared.entries.Section.{Section}
use Rattle.p9_symbols.specs.Entries.{entry_of, entries_of, routine_def, defs_of}
use Rattle.p9_symbol_laws.specs.Laws.{RiseFrom}
use Rattle.p9_symbol_laws.proofs.Records.{StandsAt}

-- Counts

abbrev Stands : (Def → Option Symbol) → Def → Type 0
Stands symbol d = (s : Symbol) × (symbol d ≡ Some s)

one-entry : (section : Section) (at : ℕ) (o : Option Symbol) (s : Symbol) → o ≡ Some s → length (entry_of section at o) ≡ 1
one-entry section at o s e = ap (λ x. length (entry_of section at x)) e

pub routines-count : (symbol : Def → Option Symbol) (place : Def → ℕ) (section : Section) (rs : List Routine) →
    ((i : ℕ) (r : Routine) → slice_get rs i ≡ Some r → Stands symbol (routine_def r)) →
    length (entries_of symbol place section (map routine_def rs)) ≡ length rs
routines-count symbol place section [] h = refl
routines-count symbol place section (r ∷ rs) h =
    let here = h 0 r refl in
    let d : Def = routine_def r in
    length-append (entry_of section (place d) (symbol d)) (entries_of symbol place section (map routine_def rs))
    ∙ omega (arith, one-entry section (place d) (symbol d) here.0 here.1, routines-count symbol place section rs (λ i q e. h (suc i) q e))

pub objects-count : (ms : List AModule) (place : Def → ℕ) (section : Section) (rs : List Numbered) → All (StandsAt ms) rs →
    length (entries_of (symbol_at ms) place section (defs_of rs)) ≡ length rs
objects-count ms place section [] h = refl
objects-count ms place section (r ∷ rs) h =
    length-append (entry_of section (place r.def) (symbol_at ms r.def)) (entries_of (symbol_at ms) place section (defs_of rs))
    ∙ omega (arith, one-entry section (place r.def) (symbol_at ms r.def) r.symbol (All-head (StandsAt ms) r rs h), objects-count ms place section rs (All-tail (StandsAt ms) r rs h))

-- Objects, one behind the other

abbrev pub PlacedFrom : (Def → ℕ) → ℕ → List Numbered → Type 0
PlacedFrom place at [] = Unit {0}
PlacedFrom place at (r ∷ rs) = (place r.def ≡ at) × (1 ≤ space_of r) × PlacedFrom place (at + space_of r) rs

-- with what comes behind them
pub objects-rise : (ms : List AModule) (place : Def → ℕ) (section : Section) (at low : ℕ) (rs : List Numbered) (more : List AoutSym) → All (StandsAt ms) rs →
    PlacedFrom place at rs → low ≤ at → ((l : ℕ) → l ≤ at + sum_by space_of rs → RiseFrom l more) →
    RiseFrom low (entries_of (symbol_at ms) place section (defs_of rs) ++ more)
objects-rise ms place section at low [] more h p le tail = tail low (omega (arith, le))
objects-rise ms place section at low (r ∷ rs) more h p le tail =
    let rest : List AoutSym = entries_of (symbol_at ms) place section (defs_of rs) in
    let all : sum_by space_of (r ∷ rs) ≡ space_of r + sum_by space_of rs = sum_by-cons space_of r rs in
    let later : RiseFrom (place r.def + 1) (rest ++ more) =
    objects-rise ms place section (at + space_of r) (place r.def + 1) rs more (All-tail (StandsAt ms) r rs h) p.2 (omega (arith, p.0, p.1))
    (λ l m. tail l (omega (arith, m, all))) in
    subst (λ o. RiseFrom low ((entry_of section (place r.def) o ++ rest) ++ more)) (sym (All-head (StandsAt ms) r rs h)) (omega (arith, le, p.0), later)

-- Functions, by their addresses

pub functions-rise : (symbol : Def → Option Symbol) (place : Def → ℕ) (section : Section) (address : ℕ → ℕ) (low limit : ℕ) (rs : List Routine) (more : List AoutSym) →
    ((i : ℕ) (r : Routine) → slice_get rs i ≡ Some r → Stands symbol (routine_def r) × (place (routine_def r) ≡ address i) × (address i < limit)) →
    ((i j : ℕ) (r s : Routine) → i < j → slice_get rs i ≡ Some r → slice_get rs j ≡ Some s → address i < address j) →
    ((r : Routine) → slice_get rs 0 ≡ Some r → low ≤ address 0) → low ≤ limit → ((l : ℕ) → l ≤ limit → RiseFrom l more) →
    RiseFrom low (entries_of symbol place section (map routine_def rs) ++ more)
functions-rise symbol place section address low limit [] more each rising first le tail = tail low le
functions-rise symbol place section address low limit (r ∷ rs) more each rising first le tail =
    let d : Def = routine_def r in
    let here = each 0 r refl in
    let rest : List AoutSym = entries_of symbol place section (map routine_def rs) in
    let later : RiseFrom (place d + 1) (rest ++ more) =
    functions-rise symbol place section (λ i. address (suc i)) (place d + 1) limit rs more (λ i q e. each (suc i) q e)
    (λ i j q s l e f. rising (suc i) (suc j) q s (omega (arith, l)) e f)
    (λ q e. let up = rising 0 1 r q (omega arith) refl e in omega (arith, up, here.1)) (omega (arith, here.1, here.2)) tail in
    let begin = first r refl in
    subst (λ o. RiseFrom low ((entry_of section (place d) o ++ rest) ++ more)) (sym here.0.1) (omega (arith, begin, here.1), later)
