-- What `resolve` and its checks of main and of uses cite.
use Rattle.std.proofs.Common.{zero, suc, ◌≡◌, ℕ, ◌<◌, ◌≤◌, ◌^◌, Bool, true, false, cond, not, ◌&&◌, List, [], ◌∷◌, ◌++◌, Option, Some, None, IsSome, is_some, find, slice_index_or, length, refl, sym, ap, subst, ◌∙◌, arith, true≢false, bytes_eq, All, AllPairs, length-append, lit<, leb, leb-true, IfSome}
use Rattle.std.specs.Cmp.Lexicographic.{bytes_decides}
use Rattle.std.specs.List.{list_all}
use Rattle.std.specs.Map.{lookup}
use Rattle.std.proofs.lemmas.List.Elements.{All-push, All-weaker, All-cons, All-nil}
use Rattle.p9_abs.specs.declared.modules.Symbol.{Symbol}
use Rattle.p9_abs.specs.declared.modules.AModule.{AModule}
use Rattle.p9_abs.specs.Modules.{size_of}
use Rattle.p9_abs.specs.Validity.{IsValid, AreApart, HasSizeInRange}
use Rattle.p9_abs.specs.declared.modules.Def.{Def}
use Rattle.p9_names.specs.Rules.{is_main, main_name}
use Rattle.p9_abs.specs.Names.{symbol_at, Defines, IsUndefined, IsFirstDefinition, IsChosen}
use Rattle.p9_names.specs.Linking.{IsKept, HasMain, HasWrongMain, Uses, AllResolved, IsUnresolved, IsFirstUnresolved, IsTable}
use Rattle.p9_abs.specs.BuiltIn.{builtin_module, builtin_symbols, linked}
use Rattle.p9_abs.proofs.BuiltInValid.{builtin_valid}
use Rattle.p9_names.specs.declared.table.LinkFault.{LinkFault}
use Rattle.p9_names.specs.declared.table.LinkFault.TheVariants.{Twice, NoMain, MainType, Unresolved, Disagree, Memory}
use Rattle.p9_names.specs.declared.rules.Rule.TheVariants.{Once, Agreement}
use Rattle.p9_names.specs.Answers.{Joins, IsRefusal}
use Rattle.p9_names.specs.Passes.{AreLinkable, ArePlaces, IsTwice, IsMainFault, IsUseFault, IsDisagreement, globals_of, uses_of, is_missing, defines, is_global_use}
use Rattle.p9_names.proofs.Lists.{slice_get-some, find-some, find-none, find-first}
use Rattle.p9_names.proofs.Listing.{stands-in, listing, global-places, use-places, use-sound, use-complete, from-sorted}
use Rattle.p9_names.proofs.Breaking.{same_symbol, holds-at, and-left, and-right, first-definition, no-definition}
use Rattle.p9_names.proofs.Chosen.{bytes-apart}

-- The modules that are linked

abbrev Sized : Symbol → Type 0
Sized s = HasSizeInRange s.body

sized-at : (ms : List AModule) → All (λ m. All Sized m.symbols) ms → (d : Def) (s : Symbol) → symbol_at ms d ≡ Some s → Sized s
sized-at ms all d s at =
    let a = stands-in ms d s at in
    let i = slice_get-some ms d.module a.owner a.there in
    let k = slice_get-some a.owner.symbols d.symbol s a.stands in
    let P : AModule → Type 0 = λ m. All Sized m.symbols in
    let here : All Sized a.owner.symbols = subst P (i.1 a.owner) (all d.module a.owner i.0) in
    subst Sized (k.1 s) (here d.symbol s k.0)

pub linkable : (modules : List AModule) → All IsValid modules → length modules < 2 ^ 32 → All (λ m. length m.symbols < 2 ^ 32) modules → AreLinkable (linked modules)
linkable modules valid count small = record {
  count = omega (arith, length-append modules (builtin_module ∷ []));
  small = All-push (λ m. length m.symbols < 2 ^ 32) modules builtin_module small (lit< tt);
  distinct = All-push (λ m. AllPairs AreApart m.symbols) modules builtin_module (All-weaker IsValid (λ m. AllPairs AreApart m.symbols) (λ m v. v.distinct) modules valid) builtin_valid.distinct;
  sized = sized-at (linked modules) (All-push (λ m. All Sized m.symbols) modules builtin_module (All-weaker IsValid (λ m. All Sized m.symbols) (λ m v. v.sizes) modules valid) builtin_valid.sizes);
}

same-linked : (ms modules : List AModule) (last : AModule) → ms ≡ modules ++ last ∷ [] → last ≡ builtin_module → linked modules ≡ ms
same-linked ms modules last e f = ap (λ m. modules ++ m ∷ []) (sym f) ∙ sym e

-- the modules as the passes see them
pub linkable_all : (ms modules : List AModule) (last : AModule) → ms ≡ modules ++ last ∷ [] → last ≡ builtin_module → All IsValid modules → length modules < 2 ^ 32 → All (λ m. length m.symbols < 2 ^ 32) modules → AreLinkable ms
linkable_all ms modules last e f valid count small = let P : List AModule → Type 0 = λ v. AreLinkable v in subst P (same-linked ms modules last e f) (linkable modules valid count small)

-- what the passes refuse is what is refused

twice-refusal : (ms : List AModule) (fault : LinkFault) → IsTwice ms fault → IsRefusal ms fault
twice-refusal ms (Twice _ _ _) h = h
twice-refusal ms Memory h = tt
twice-refusal ms NoMain h = absurd h
twice-refusal ms (MainType _) h = absurd h
twice-refusal ms (Unresolved _ _) h = absurd h
twice-refusal ms (Disagree _ _ _) h = absurd h

main-refusal : (ms : List AModule) (fault : LinkFault) → IsKept Once ms → IsMainFault ms fault → IsRefusal ms fault
main-refusal ms (Twice _ _ _) k h = absurd h
main-refusal ms Memory k h = tt
main-refusal ms NoMain k h = (k, h)
main-refusal ms (MainType _) k h = (k, h)
main-refusal ms (Unresolved _ _) k h = absurd h
main-refusal ms (Disagree _ _ _) k h = absurd h

use-refusal : (ms : List AModule) (fault : LinkFault) → IsKept Once ms → HasMain ms → IsUseFault ms fault → IsRefusal ms fault
use-refusal ms (Twice _ _ _) k m h = absurd h
use-refusal ms Memory k m h = tt
use-refusal ms NoMain k m h = absurd h
use-refusal ms (MainType _) k m h = absurd h
use-refusal ms (Unresolved _ _) k m h = (k, m, h)
use-refusal ms (Disagree _ _ _) k m h = absurd h

agree-refusal : (ms : List AModule) (fault : LinkFault) → IsKept Once ms → HasMain ms → AllResolved ms → IsDisagreement ms fault → IsRefusal ms fault
agree-refusal ms (Twice _ _ _) k m r h = absurd h
agree-refusal ms Memory k m r h = tt
agree-refusal ms NoMain k m r h = absurd h
agree-refusal ms (MainType _) k m r h = absurd h
agree-refusal ms (Unresolved _ _) k m r h = absurd h
agree-refusal ms (Disagree _ _ _) k m r h = (k, m, r, h)

pub twice_refused : (ms modules : List AModule) (last : AModule) (fault : LinkFault) → ms ≡ modules ++ last ∷ [] → last ≡ builtin_module → IsTwice ms fault → IsRefusal (linked modules) fault
twice_refused ms modules last fault e f h = let P : List AModule → Type 0 = λ v. IsRefusal v fault in subst P (sym (same-linked ms modules last e f)) (twice-refusal ms fault h)

pub main_refused : (ms modules : List AModule) (last : AModule) (fault : LinkFault) → ms ≡ modules ++ last ∷ [] → last ≡ builtin_module → IsKept Once ms → IsMainFault ms fault → IsRefusal (linked modules) fault
main_refused ms modules last fault e f k h = let P : List AModule → Type 0 = λ v. IsRefusal v fault in subst P (sym (same-linked ms modules last e f)) (main-refusal ms fault k h)

pub use_refused : (ms modules : List AModule) (last : AModule) (fault : LinkFault) → ms ≡ modules ++ last ∷ [] → last ≡ builtin_module → IsKept Once ms → HasMain ms → IsUseFault ms fault → IsRefusal (linked modules) fault
use_refused ms modules last fault e f k m h = let P : List AModule → Type 0 = λ v. IsRefusal v fault in subst P (sym (same-linked ms modules last e f)) (use-refusal ms fault k m h)

pub agree_refused : (ms modules : List AModule) (last : AModule) (fault : LinkFault) → ms ≡ modules ++ last ∷ [] → last ≡ builtin_module → IsKept Once ms → HasMain ms → AllResolved ms → IsDisagreement ms fault → IsRefusal (linked modules) fault
agree_refused ms modules last fault e f k m r h = let P : List AModule → Type 0 = λ v. IsRefusal v fault in subst P (sym (same-linked ms modules last e f)) (agree-refusal ms fault k m r h)

pub all_join : (ms modules : List AModule) (last : AModule) → ms ≡ modules ++ last ∷ [] → last ≡ builtin_module → IsKept Once ms → HasMain ms → AllResolved ms → IsKept Agreement ms → Joins (linked modules)
all_join ms modules last e f k m r a = let P : List AModule → Type 0 = λ v. Joins v in subst P (sym (same-linked ms modules last e f)) (record { once = k; main = m; resolved = r; agree = a })

pub table_of_all : (ms modules : List AModule) (last : AModule) (entries : List (List ℕ × Def)) → ms ≡ modules ++ last ∷ [] → last ≡ builtin_module → IsTable ms entries → IsTable (linked modules) entries
table_of_all ms modules last entries e f t = let P : List AModule → Type 0 = λ v. IsTable v entries in subst P (sym (same-linked ms modules last e f)) t

pub linkable_places : (ms : List AModule) (places : List Def) → AreLinkable ms → places ≡ globals_of ms → ArePlaces ms places
linkable_places ms places l e = let P : List Def → Type 0 = λ v. ArePlaces ms v in subst P (sym e) (global-places ms l)

pub uses_places : (ms : List AModule) (places : List Def) → places ≡ uses_of ms → ArePlaces ms places
uses_places ms places e = let P : List Def → Type 0 = λ v. ArePlaces ms v in subst P (sym e) (use-places ms)

-- main

some-is : {X : Type 0} (o : Option X) (x : X) → o ≡ Some x → IsSome o
some-is {X} o x e = let P : Option X → Type 0 = λ v. IsSome v in subst P (sym e) refl

first-main : (ms : List AModule) (places : List Def) (name : List ℕ) (d : Def) → AreLinkable ms → places ≡ globals_of ms → name ≡ main_name → find (defines ms name) places ≡ Some d → IsFirstDefinition ms main_name d
first-main ms places name d l e n h =
    first-definition ms (globals_of ms) (listing ms l) main_name d (ap (λ v. find (defines ms v) (globals_of ms)) (sym n) ∙ ap (λ v. find (defines ms name) v) (sym e) ∙ h)

pub main_place : (ms : List AModule) (places : List Def) (name : List ℕ) (d : Def) → AreLinkable ms → places ≡ globals_of ms → name ≡ main_name → find (defines ms name) places ≡ Some d → IsSome (symbol_at ms d)
main_place ms places name d l e n h = let f = first-main ms places name d l e n h in some-is (symbol_at ms d) f.defines.symbol f.defines.occurs.stands

pub main_fits : (ms : List AModule) (places : List Def) (name : List ℕ) (d : Def) (s : Symbol) → AreLinkable ms → places ≡ globals_of ms → name ≡ main_name → find (defines ms name) places ≡ Some d → symbol_at ms d ≡ Some s → is_main s ≡ true → HasMain ms
main_fits ms places name d s l e n h at fits =
    let f = first-main ms places name d l e n h in
    record { place = d; first = f; fits = ap is_main (same_symbol (symbol_at ms d) f.defines.symbol s f.defines.occurs.stands at) ∙ fits }

pub main_misfits : (ms : List AModule) (places : List Def) (name : List ℕ) (d : Def) (s : Symbol) → AreLinkable ms → places ≡ globals_of ms → name ≡ main_name → find (defines ms name) places ≡ Some d → symbol_at ms d ≡ Some s → is_main s ≡ false → HasWrongMain ms d.module
main_misfits ms places name d s l e n h at misfits =
    let f = first-main ms places name d l e n h in
    record { place = d; first = f; misfits = ap is_main (same_symbol (symbol_at ms d) f.defines.symbol s f.defines.occurs.stands at) ∙ misfits; in_module = refl }

pub main_missing : (ms : List AModule) (places : List Def) (name : List ℕ) → AreLinkable ms → places ≡ globals_of ms → name ≡ main_name → find (defines ms name) places ≡ None → IsUndefined ms main_name
main_missing ms places name l e n h =
    no-definition ms (globals_of ms) (listing ms l) main_name (ap (λ v. find (defines ms v) (globals_of ms)) (sym n) ∙ ap (λ v. find (defines ms name) v) (sym e) ∙ h)

-- uses

-- what the table holds for a name defines it
held-defines : (ms : List AModule) (entries : List (List ℕ × Def)) → All (λ entry. IsChosen ms entry.0 entry.1) entries → (name : List ℕ) (c : Def) → lookup (bytes_eq name) entries ≡ Some c → Defines ms name c
held-defines ms [] all name c h = cc
held-defines ms (e ∷ es) all name c h = by (bytes_eq name e.0) refl h (held-defines ms es (λ k z lt. all (suc k) z (omega arith)) name c)
  where
    by : (b : Bool) → bytes_eq name e.0 ≡ b → cond b (Some e.1) (lookup (bytes_eq name) es) ≡ Some c → (lookup (bytes_eq name) es ≡ Some c → Defines ms name c) → Defines ms name c
    by true t g rest =
        let same : e.1 ≡ c = cc in
        let named : name ≡ e.0 = (bytes_decides name e.0).0 t in
        let P : List ℕ → Type 0 = λ v. Defines ms v c in
        let Q : Def → Type 0 = λ v. Defines ms e.0 v in
        let head : IsChosen ms e.0 e.1 = all 0 e (omega arith) in
        subst P (sym named) (subst Q same head.defines)
    by false t g rest = rest g

not-held : (ms : List AModule) (entries : List (List ℕ × Def)) (name : List ℕ) → not (is_some (lookup (bytes_eq name) entries)) ≡ true → IsSome (lookup (bytes_eq name) entries) → ⊥
not-held ms entries name h some = true≢false (sym h ∙ ap not some)

found : (o : Option Def) → not (is_some o) ≡ false → (c : Def) × (o ≡ Some c)
found None h = absurd (true≢false h)
found (Some c) h = (c, refl)

pub all_resolved : (ms : List AModule) (entries : List (List ℕ × Def)) (uses : List Def) → IsTable ms entries → uses ≡ uses_of ms → find (is_missing ms entries) uses ≡ None → AllResolved ms
all_resolved ms entries uses t e h name d u =
    let P : List Def → Type 0 = λ v. find (is_missing ms entries) v ≡ None in
    let present : is_missing ms entries d ≡ false = find-none (is_missing ms entries) (uses_of ms) (subst P e h) d (use-complete ms name d u) in
    let test : not (is_some (lookup (bytes_eq u.symbol.name) entries)) ≡ false = sym (holds-at (λ s. not (is_some (lookup (bytes_eq s.name) entries))) (symbol_at ms d) u.symbol u.occurs.stands) ∙ present in
    let c = found (lookup (bytes_eq u.symbol.name) entries) test in
    let Q : List ℕ → Type 0 = λ v. Defines ms v c.0 in
    (c.0, subst Q u.occurs.named (held-defines ms entries t.chosen u.symbol.name c.0 c.1))

missing-of : (ms : List AModule) (entries : List (List ℕ × Def)) → IsTable ms entries → (name : List ℕ) (d : Def) → IsUnresolved ms name d → is_missing ms entries d ≡ true
missing-of ms entries t name d u =
    holds-at (λ s. not (is_some (lookup (bytes_eq s.name) entries))) (symbol_at ms d) u.uses.symbol u.uses.occurs.stands
    ∙ by (lookup (bytes_eq u.uses.symbol.name) entries) refl
  where
    by : (o : Option Def) → lookup (bytes_eq u.uses.symbol.name) entries ≡ o → not (is_some o) ≡ true
    by None h = refl
    by (Some c) h =
        let Q : List ℕ → Type 0 = λ v. Defines ms v c in
        absurd (u.undefined c (subst Q u.uses.occurs.named (held-defines ms entries t.chosen u.uses.symbol.name c h)))

pub use_place : (ms : List AModule) (entries : List (List ℕ × Def)) (uses : List Def) (d : Def) → uses ≡ uses_of ms → find (is_missing ms entries) uses ≡ Some d → IsSome (symbol_at ms d)
use_place ms entries uses d e h =
    let P : List Def → Type 0 = λ v. find (is_missing ms entries) v ≡ Some d in
    let got = find-some (is_missing ms entries) (uses_of ms) d (subst P e h) in
    let u = use-sound ms d got.0 in
    some-is (symbol_at ms d) u.0 u.1

pub first_unresolved : (ms : List AModule) (entries : List (List ℕ × Def)) (uses : List Def) (d : Def) (s : Symbol) → IsTable ms entries → uses ≡ uses_of ms → find (is_missing ms entries) uses ≡ Some d → symbol_at ms d ≡ Some s → IsFirstUnresolved ms s.name d.module
first_unresolved ms entries uses d s t e h at =
    let P : List Def → Type 0 = λ v. find (is_missing ms entries) v ≡ Some d in
    let here = subst P e h in
    let got = find-some (is_missing ms entries) (uses_of ms) d here in
    let u = use-sound ms d got.0 in
    let same : u.0 ≡ s = same_symbol (symbol_at ms d) u.0 s u.1 at in
    let test : not (is_some (lookup (bytes_eq s.name) entries)) ≡ true = sym (holds-at (λ s. not (is_some (lookup (bytes_eq s.name) entries))) (symbol_at ms d) s at) ∙ got.1 in
    let Q : Symbol → Type 0 = λ v. Uses ms v.name d in
    record {
      place = d;
      unresolved = record { uses = subst Q same u.2; undefined = λ c p. not-held ms entries s.name test (t.complete s.name c p) };
      least = λ other f w. find-first (is_missing ms entries) (uses_of ms) d (from-sorted is_global_use 0 ms) here f (use-complete ms other f w.uses) (missing-of ms entries t other f w);
      in_module = refl;
    }
