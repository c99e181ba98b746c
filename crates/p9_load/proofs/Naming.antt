-- The names of symbol entries have no zero byte.
use Rattle.std.proofs.Common.{ℕ, ◌+◌, ◌≡◌, ◌≤◌, ◌<◌, Bool, Option, Some, None, List, [], ◌∷◌, ◌++◌, length, map, refl, sym, ap, ◌∙◌, subst, All, arith}
use Rattle.std.specs.Prelude.{slice_get, slice_index_or, Contains}
use Rattle.std.proofs.lemmas.List.Elements.{All-nil, All-cons, All-append}
use Rattle.p9_abs.specs.declared.modules.AModule.{AModule}
use Rattle.p9_abs.specs.declared.modules.Def.{Def}
use Rattle.p9_abs.specs.declared.modules.Symbol.{Symbol}
use Rattle.p9_abs.specs.BuiltIn.{builtin_module, linked}
use Rattle.p9_abs.specs.Names.{symbol_at}
use Rattle.p9_abs.specs.Programs.{Placing, routines_of, inits_of, bss_of}
use Rattle.p9_abs.specs.Validity.{IsGraphic, IsName, IsValid}
use Rattle.p9_abs.proofs.BuiltInValid.{builtin_valid}
use Rattle.p9_refine.proofs.Numbers.{all-at}
use Rattle.p9_refine.proofs.Own.{symbol-in}
use Rattle.p9_aout.specs.declared.format.AoutSym.{AoutSym}
use Rattle.p9_aout.specs.Symbols.{HasWholeName}
use Rattle.p9_symbols.specs.declared.entries.Section.{Section}
use Rattle.p9_symbols.specs.declared.entries.Section.TheVariants.{Text, Data, Bss}
use Rattle.p9_symbols.specs.Entries.{letter_of, entry_of, entries_of, routine_def, defs_of, place_of, symbol_entries}

whole : (name : List ℕ) → IsName name → Contains name 0 → ⊥
whole name h c =
    let graphic : IsGraphic (slice_index_or name c.0 0) = h.2 c.0 0 c.1 in
    omega (arith, graphic.0, c.2)

symbol-named : (ms : List AModule) (d : Def) (s : Symbol) → All IsValid ms → symbol_at ms d ≡ Some s → IsName s.name
symbol-named ms d s valid e =
    let m = symbol-in (slice_get ms d.«module») d.symbol s e in
    let here : IsValid m.0 = all-at IsValid ms d.«module» m.0 valid m.1 in
    all-at (λ (x : Symbol). IsName x.name) m.0.symbols d.symbol s here.names m.2

entry-whole : (section : Section) (at : ℕ) (o : Option Symbol) → ((s : Symbol) → o ≡ Some s → IsName s.name) → All HasWholeName (entry_of section at o)
entry-whole section at None h = All-nil HasWholeName
entry-whole section at (Some s) h = All-cons HasWholeName (record { value = at; letter = letter_of section s.local; name = s.name }) [] (whole s.name (h s refl)) (All-nil HasWholeName)

entries-whole : (symbol : Def → Option Symbol) (place : Def → ℕ) (section : Section) (defs : List Def) →
    ((d : Def) (s : Symbol) → symbol d ≡ Some s → IsName s.name) → All HasWholeName (entries_of symbol place section defs)
entries-whole symbol place section [] h = All-nil HasWholeName
entries-whole symbol place section (d ∷ rest) h =
    All-append HasWholeName (entry_of section (place d) (symbol d)) (entries_of symbol place section rest)
    (entry-whole section (place d) (symbol d) (λ s e. h d s e)) (entries-whole symbol place section rest h)

pub linked-valid : (modules : List AModule) → All IsValid modules → All IsValid (linked modules)
linked-valid modules h = All-append IsValid modules (builtin_module ∷ []) h (All-cons IsValid builtin_module [] builtin_valid (All-nil IsValid))

pub names-whole : (modules : List AModule) (p : Placing) → All IsValid modules → All HasWholeName (symbol_entries modules p)
names-whole modules p valid =
    let all = linked modules in
    let named : (d : Def) (s : Symbol) → symbol_at all d ≡ Some s → IsName s.name = λ d s e. symbol-named all d s (linked-valid modules valid) e in
    let entries = entries_of (symbol_at all) (place_of modules p) in
    let made : (section : Section) (defs : List Def) → All HasWholeName (entries section defs) = λ section defs. entries-whole (symbol_at all) (place_of modules p) section defs named in
    All-append HasWholeName (entries Text (map routine_def (routines_of modules))) (entries Data (defs_of (inits_of all)) ++ entries Bss (defs_of (bss_of all)))
    (made Text (map routine_def (routines_of modules)))
    (All-append HasWholeName (entries Data (defs_of (inits_of all))) (entries Bss (defs_of (bss_of all))) (made Data (defs_of (inits_of all))) (made Bss (defs_of (bss_of all))))
