-- Each function's definition has the function's own number.
use Rattle.std.proofs.Common.{ℕ, zero, suc, ◌+◌, ◌==◌, ◌&&◌, ◌≡◌, ◌≤◌, ◌<◌, ◌⊎◌, inl, inr, Bool, true, false, Option, Some, None, List, [], ◌∷◌, ◌++◌, length, if◌then◌else◌, refl, sym, ap, ◌∙◌, subst, arith, append_assoc}
use Rattle.std.specs.Prelude.{slice_get}
use Rattle.std.proofs.lemmas.Option.{none-some, same_Some}
use Rattle.std.proofs.lemmas.Grind.{flat_map-append}
use Rattle.std.proofs.lemmas.Bool.Decides.{nat_tests}
use Rattle.p9_abs.specs.declared.instructions.TextDef.{TextDef}
use Rattle.p9_abs.specs.declared.modules.AModule.{AModule}
use Rattle.p9_abs.specs.declared.modules.Body.{Body}
use Rattle.p9_abs.specs.declared.modules.Body.TheVariants.{Declared, Used, Text, Data, Common}
use Rattle.p9_abs.specs.declared.modules.Def.{Def}
use Rattle.p9_abs.specs.declared.modules.Symbol.{Symbol}
use Rattle.p9_abs.specs.BuiltIn.{linked}
use Rattle.p9_abs.specs.Names.{symbol_at}
use Rattle.p9_abs.specs.Runs.{Routine}
use Rattle.p9_abs.specs.Programs.{Numbered, numbered_from, records_from, records, same_def, routine_of, routines_in, routines_of, routine_number}
use Rattle.p9_refine.proofs.Own.{HasSymbol, symbols-found}
use Rattle.p9_refine.proofs.Finding.{IsFound, number-found}
use Rattle.p9_symbols.specs.Entries.{routine_def}

-- Definitions that differ

abbrev pub AreApart : Def → Def → Type 0
AreApart a b = (same_def a b ≡ false) × (same_def b a ≡ false)

units-differ : (a b : Def) → (a.«module» ≡ b.«module» → ⊥) → same_def a b ≡ false
units-differ a b h = grind (arith, nat_tests)

symbols-differ : (a b : Def) → (a.symbol ≡ b.symbol → ⊥) → same_def a b ≡ false
symbols-differ a b h = by (a.«module» == b.«module»)
  where
    by : (t : Bool) → (t && (a.symbol == b.symbol)) ≡ false
    by true = grind (arith, nat_tests)
    by false = refl

other-units : (a b : Def) → (a.«module» ≡ b.«module» → ⊥) → AreApart a b
other-units a b h = (units-differ a b h, units-differ b a (λ e. h (sym e)))

other-symbols : (a b : Def) → (a.symbol ≡ b.symbol → ⊥) → AreApart a b
other-symbols a b h = (symbols-differ a b h, symbols-differ b a (λ e. h (sym e)))

-- no function has this definition
abbrev pub IsApart : Def → List Routine → Type 0
IsApart d [] = Unit {0}
IsApart d (r ∷ rs) = AreApart d (routine_def r) × IsApart d rs

-- no two functions have one definition
abbrev pub AreDistinct : List Routine → Type 0
AreDistinct [] = Unit {0}
AreDistinct (r ∷ rs) = IsApart (routine_def r) rs × AreDistinct rs

apart-append : (d : Def) (xs ys : List Routine) → IsApart d xs → IsApart d ys → IsApart d (xs ++ ys)
apart-append d [] ys a b = b
apart-append d (x ∷ xs) ys a b = (a.0, apart-append d xs ys a.1 b)

-- of one symbol
apart-body : (d e : Def) (body : Body) → AreApart d e → IsApart d (routine_of e body)
apart-body d e (Text def) h = (h, tt)
apart-body d e Declared h = tt
apart-body d e Used h = tt
apart-body d e (Data pieces) h = tt
apart-body d e (Common size) h = tt

apart-later : (d : Def) (unit k : ℕ) (ss : List Symbol) → d.symbol < k → IsApart d (routines_in (numbered_from unit k ss))
apart-later d unit k [] h = tt
apart-later d unit k (s ∷ ss) h =
    let e : Def = record { «module» = unit; symbol = k } in
    apart-append d (routine_of e s.body) (routines_in (numbered_from unit (k + 1) ss)) (apart-body d e s.body (other-symbols d e (λ z. let y : d.symbol ≡ k = z in omega (arith, h, y))))
    (apart-later d unit (k + 1) ss (omega (arith, h)))

apart-other : (d : Def) (unit k : ℕ) (ss : List Symbol) → (d.«module» ≡ unit → ⊥) → IsApart d (routines_in (numbered_from unit k ss))
apart-other d unit k [] h = tt
apart-other d unit k (s ∷ ss) h =
    let e : Def = record { «module» = unit; symbol = k } in
    apart-append d (routine_of e s.body) (routines_in (numbered_from unit (k + 1) ss)) (apart-body d e s.body (other-units d e h)) (apart-other d unit (k + 1) ss h)

routines-append : (xs ys : List Numbered) → routines_in (xs ++ ys) ≡ routines_in xs ++ routines_in ys
routines-append xs ys = flat_map-append (λ (r : Numbered). routine_of r.def r.symbol.body) xs ys

apart-modules : (d : Def) (unit : ℕ) (ms : List AModule) → (d.«module» < unit) ⊎ (unit + length ms ≤ d.«module») → IsApart d (routines_in (records_from unit ms))
apart-modules d unit [] h = tt
apart-modules d unit (m ∷ ms) h =
    subst (IsApart d) (sym (routines-append (numbered_from unit 0 m.symbols) (records_from (unit + 1) ms)))
    (apart-append d (routines_in (numbered_from unit 0 m.symbols)) (routines_in (records_from (unit + 1) ms))
    (apart-other d unit 0 m.symbols (λ z. here h z)) (apart-modules d (unit + 1) ms (there h)))
  where
    here : (d.«module» < unit) ⊎ (unit + suc (length ms) ≤ d.«module») → d.«module» ≡ unit → ⊥
    here (inl x) z = omega (arith, x, z)
    here (inr x) z = omega (arith, x, z)

    there : (d.«module» < unit) ⊎ (unit + suc (length ms) ≤ d.«module») → (d.«module» < unit + 1) ⊎ (unit + 1 + length ms ≤ d.«module»)
    there (inl x) = inl (omega (arith, x))
    there (inr x) = inr (omega (arith, x))

-- Functions of modules

distinct-body : (e : Def) (body : Body) (rest : List Routine) → IsApart e rest → AreDistinct rest → AreDistinct (routine_of e body ++ rest)
distinct-body e (Text def) rest a h = (a, h)
distinct-body e Declared rest a h = h
distinct-body e Used rest a h = h
distinct-body e (Data pieces) rest a h = h
distinct-body e (Common size) rest a h = h

distinct-module : (unit k : ℕ) (ss : List Symbol) (rest : List Routine) → AreDistinct rest →
    ((j : ℕ) → IsApart (record { «module» = unit; symbol = j }) rest) → AreDistinct (routines_in (numbered_from unit k ss) ++ rest)
distinct-module unit k [] rest h a = h
distinct-module unit k (s ∷ ss) rest h a =
    let e : Def = record { «module» = unit; symbol = k } in
    let more : List Routine = routines_in (numbered_from unit (k + 1) ss) in
    subst AreDistinct (sym (append_assoc (routine_of e s.body) more rest))
    (distinct-body e s.body (more ++ rest) (apart-append e more rest (apart-later e unit (k + 1) ss (let l : k < k + 1 = omega arith in l)) (a k))
    (distinct-module unit (k + 1) ss rest h a))

distinct-modules : (unit : ℕ) (ms : List AModule) (rest : List Routine) → AreDistinct rest →
    ((d : Def) → d.«module» < unit + length ms → IsApart d rest) → AreDistinct (routines_in (records_from unit ms) ++ rest)
distinct-modules unit [] rest h a = h
distinct-modules unit (m ∷ ms) rest h a =
    let own : List Routine = routines_in (numbered_from unit 0 m.symbols) in
    let more : List Routine = routines_in (records_from (unit + 1) ms) in
    subst (λ l. AreDistinct (l ++ rest)) (sym (routines-append (numbered_from unit 0 m.symbols) (records_from (unit + 1) ms)))
    (subst AreDistinct (sym (append_assoc own more rest))
    (distinct-module unit 0 m.symbols (more ++ rest) (distinct-modules (unit + 1) ms rest h (λ d l. a d (omega (arith, l))))
    (λ j. let d : Def = record { «module» = unit; symbol = j } in
    apart-append d more rest (apart-modules d (unit + 1) ms (inl (let l : unit < unit + 1 = omega arith in l))) (a d (let l : unit < unit + suc (length ms) = omega arith in l)))))

pub all-distinct : (modules : List AModule) → AreDistinct (routines_of modules)
all-distinct modules =
    let n : ℕ = length modules in
    let at : ℕ → Def = λ k. record { «module» = n; symbol = k } in
    let others : (d : Def) → d.«module» < 0 + length modules → (k : ℕ) → AreApart d (at k) =
    λ d l k. other-units d (at k) (λ z. let y : d.«module» ≡ length modules = z in omega (arith, l, y)) in (
      apart-append (at 0) (routines_in (records modules)) _
          (apart-modules (at 0) 0 modules (inr (let l : 0 + length modules ≤ length modules = omega arith in l)))
          (other-symbols (at 0) (at 4) (λ z. omega (arith, z)), (other-symbols (at 0) (at 5) (λ z. omega (arith, z)), (other-symbols (at 0) (at 6) (λ z. omega (arith, z)), tt))),
      distinct-modules 0 modules _ (
        (other-symbols (at 4) (at 5) (λ z. omega (arith, z)), (other-symbols (at 4) (at 6) (λ z. omega (arith, z)), tt)),
        ((other-symbols (at 5) (at 6) (λ z. omega (arith, z)), tt), (tt, tt)),
      )
          (λ d l. (others d l 4, (others d l 5, (others d l 6, tt)))),
    )

-- Numbers

same-self : (d : Def) → same_def d d ≡ true
same-self d = grind (arith, nat_tests)

apart-at : (d : Def) (rs : List Routine) (f : ℕ) (r : Routine) → IsApart d rs → slice_get rs f ≡ Some r → same_def d (routine_def r) ≡ false
apart-at d [] f r a e = absurd (none-some r e)
apart-at d (q ∷ rs) zero r a e = subst (λ (x : Routine). same_def d (routine_def x) ≡ false) (same_Some q r e) a.0.0
apart-at d (q ∷ rs) (suc f) r a e = apart-at d rs f r a.1 e

own-number : (rs : List Routine) (m f : ℕ) (r : Routine) → AreDistinct rs → slice_get rs f ≡ Some r → routine_number rs m (routine_def r) ≡ Some (m + f)
own-number [] m f r h e = absurd (none-some r e)
own-number (q ∷ rs) m zero r h e =
    subst (λ (x : Routine). routine_number (q ∷ rs) m (routine_def x) ≡ Some (m + 0)) (same_Some q r e)
    (ap (λ (b : Bool). if b then Some m else routine_number rs (m + 1) (routine_def q)) (same-self (routine_def q)) ∙ ap Some (let z : m ≡ m + 0 = omega arith in z))
own-number (q ∷ rs) m (suc f) r h e =
    ap (λ (b : Bool). if b then Some m else routine_number rs (m + 1) (routine_def r)) (apart-at (routine_def q) rs f r h.0 e)
    ∙ (own-number rs (m + 1) f r h.1 e ∙ ap Some (let z : m + 1 + f ≡ m + suc f = omega arith in z))

pub function-number : (modules : List AModule) (f : ℕ) (r : Routine) → slice_get (routines_of modules) f ≡ Some r →
    routine_number (routines_of modules) 0 (routine_def r) ≡ Some f
function-number modules f r e = own-number (routines_of modules) 0 f r (all-distinct modules) e ∙ ap Some (let z : 0 + f ≡ f = omega arith in z)

-- what is no function has no number
pub no-number : (modules : List AModule) (d : Def) (s : Symbol) → symbol_at (linked modules) d ≡ Some s → ((def : TextDef) → s.body ≡ Text def → ⊥) →
    routine_number (routines_of modules) 0 d ≡ None
no-number modules d s stands none = by (routine_number (routines_of modules) 0 d) refl
  where
    by : (o : Option ℕ) → routine_number (routines_of modules) 0 d ≡ o → o ≡ None
    by None e = refl
    by (Some g) e =
        let found = number-found (routines_of modules) 0 d g e in
        let q : IsFound (routines_of modules) d found.0 = found.2 in
        let h : HasSymbol (linked modules) q.routine = symbols-found modules found.0 q.routine q.there in
        let same : routine_def q.routine ≡ d = same-def (routine_def q.routine) d q.is in
        let own : h.symbol ≡ s = same_Some h.symbol s (sym h.stands ∙ (ap (symbol_at (linked modules)) same ∙ stands)) in
        absurd (none q.routine.def (ap (λ (x : Symbol). x.body) (sym own) ∙ h.text))
      where
        same-def : (a b : Def) → same_def a b ≡ true → a ≡ b
        same-def a b h =
            let unit : a.«module» ≡ b.«module» = grind (arith, nat_tests) in
            let symbol : a.symbol ≡ b.symbol = grind (arith, nat_tests) in
            ap (λ n. record { «module» = n; symbol = a.symbol }) unit ∙ ap (λ n. record { «module» = b.«module»; symbol = n }) symbol
