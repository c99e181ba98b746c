-- Each function is what its own symbol stands for, where no name is defined twice.
use Rattle.std.proofs.Common.{ℕ, zero, suc, ◌+◌, ◌≡◌, ◌<◌, ◌⊎◌, inl, inr, Bool, true, false, Option, Some, None, List, [], ◌∷◌, ◌++◌, length, refl, sym, ap, ◌∙◌, subst, All, AllPairs, get_or, if◌then◌else◌, arith}
use Rattle.std.specs.Prelude.{slice_get, option_and_then}
use Rattle.std.proofs.lemmas.List.Elements.{All-nil, All-cons, All-head, All-tail, All-append}
use Rattle.std.proofs.lemmas.Option.{none-some, same_Some, slice_get_within, get_or_from_slice_get}
use Rattle.std.proofs.lemmas.Bool.{true≢false}
use Rattle.p9_abs.specs.declared.instructions.TextDef.{TextDef}
use Rattle.p9_abs.specs.declared.modules.AModule.{AModule}
use Rattle.p9_abs.specs.declared.modules.Body.{Body}
use Rattle.p9_abs.specs.declared.modules.Body.TheVariants.{Declared, Used, Text, Data, Common}
use Rattle.p9_abs.specs.declared.modules.Def.{Def}
use Rattle.p9_abs.specs.declared.modules.Symbol.{Symbol}
use Rattle.p9_abs.specs.Modules.{is_definition, is_full}
use Rattle.p9_abs.specs.Names.{symbol_at, Defines, IsChosen}
use Rattle.p9_abs.specs.BuiltIn.{builtin_symbols, builtin_module, linked}
use Rattle.p9_abs.specs.Runs.{Routine}
use Rattle.p9_abs.specs.Programs.{Numbered, numbered_from, records_from, records, routine_of, routines_in, with_start, routines_of, chosen, stands_for, definition_of}
use Rattle.p9_abs.specs.Validity.{AreApart, IsValid}
use Rattle.p9_abs.proofs.BuiltInValid.{builtin_valid}
use Rattle.p9_abs.proofs.Choosing.{chosen_is_chosen, none_is_undefined}
use Rattle.p9_names.specs.declared.rules.Rule.TheVariants.{Once}
use Rattle.p9_names.specs.Rules.{clash}
use Rattle.p9_names.specs.Linking.{IsKept}
use Rattle.p9_refine.proofs.Numbers.{all-at}

abbrev pub own : Routine → Def
own r = record { «module» = r.unit; symbol = r.symbol }

-- The symbol of a function

pub record HasSymbol (ms : List AModule) (r : Routine) : Type 0 where
  pub symbol : Symbol
  pub stands : symbol_at ms (own r) ≡ Some symbol
  pub text : symbol.body ≡ Text r.def

abbrev IsAt : List AModule → Numbered → Type 0
IsAt ms r = symbol_at ms r.def ≡ Some r.symbol

numbered-at : (ms : List AModule) (unit k : ℕ) (ss : List Symbol) →
    ((j : ℕ) (s : Symbol) → slice_get ss j ≡ Some s → symbol_at ms (record { «module» = unit; symbol = k + j }) ≡ Some s) → All (IsAt ms) (numbered_from unit k ss)
numbered-at ms unit k [] h = All-nil (IsAt ms)
numbered-at ms unit k (s ∷ ss) h =
    All-cons (IsAt ms) (record { def = record { «module» = unit; symbol = k }; symbol = s }) (numbered_from unit (k + 1) ss)
    (subst (λ n. symbol_at ms (record { «module» = unit; symbol = n }) ≡ Some s) (let e : k + 0 ≡ k = omega arith in e) (h 0 s refl))
    (numbered-at ms unit (k + 1) ss
    (λ j t e. subst (λ n. symbol_at ms (record { «module» = unit; symbol = n }) ≡ Some t) (let e : k + suc j ≡ k + 1 + j = omega arith in e) (h (suc j) t e)))

module-at : (ms : List AModule) (unit : ℕ) (m : AModule) → slice_get ms unit ≡ Some m → All (IsAt ms) (numbered_from unit 0 m.symbols)
module-at ms unit m e =
    numbered-at ms unit 0 m.symbols
    (λ j s h. ap (option_and_then (λ (n : AModule). slice_get n.symbols (0 + j))) e ∙ ap (slice_get m.symbols) (let e : 0 + j ≡ j = omega arith in e) ∙ h)

modules-at : (ms : List AModule) (unit : ℕ) (part : List AModule) → ((i : ℕ) (m : AModule) → slice_get part i ≡ Some m → slice_get ms (unit + i) ≡ Some m) →
    All (IsAt ms) (records_from unit part)
modules-at ms unit [] h = All-nil (IsAt ms)
modules-at ms unit (m ∷ rest) h =
    All-append (IsAt ms) (numbered_from unit 0 m.symbols) (records_from (unit + 1) rest)
    (module-at ms unit m (ap (slice_get ms) (let e : unit ≡ unit + 0 = omega arith in e) ∙ h 0 m refl))
    (modules-at ms (unit + 1) rest (λ i n e. ap (slice_get ms) (let e : unit + 1 + i ≡ unit + suc i = omega arith in e) ∙ h (suc i) n e))

routine-at : (ms : List AModule) (d : Def) (s : Symbol) → symbol_at ms d ≡ Some s → (body : Body) → s.body ≡ body → All (HasSymbol ms) (routine_of d body)
routine-at ms d s e (Text def) text =
    All-cons (HasSymbol ms) (record { unit = d.«module»; symbol = d.symbol; def = def }) [] (record { symbol = s; stands = e; text = text }) (All-nil (HasSymbol ms))
routine-at ms d s e Declared text = All-nil (HasSymbol ms)
routine-at ms d s e Used text = All-nil (HasSymbol ms)
routine-at ms d s e (Data pieces) text = All-nil (HasSymbol ms)
routine-at ms d s e (Common size) text = All-nil (HasSymbol ms)

routines-at : (ms : List AModule) (rs : List Numbered) → All (IsAt ms) rs → All (HasSymbol ms) (routines_in rs)
routines-at ms [] h = All-nil (HasSymbol ms)
routines-at ms (r ∷ rs) h =
    All-append (HasSymbol ms) (routine_of r.def r.symbol.body) (routines_in rs)
    (routine-at ms r.def r.symbol (All-head (IsAt ms) r rs h) r.symbol.body refl) (routines-at ms rs (All-tail (IsAt ms) r rs h))

started : (ms : List AModule) (xs ys : List Routine) → All (HasSymbol ms) xs → All (HasSymbol ms) ys → All (HasSymbol ms) (with_start xs ys)
started ms [] ys h k = k
started ms (x ∷ xs) ys h k =
    All-cons (HasSymbol ms) x (ys ++ xs) (All-head (HasSymbol ms) x xs h) (All-append (HasSymbol ms) ys xs k (All-tail (HasSymbol ms) x xs h))

-- modules among the linked ones

earlier : (xs ys : List AModule) (i : ℕ) (m : AModule) → slice_get xs i ≡ Some m → slice_get (xs ++ ys) i ≡ Some m
earlier [] ys i m e = absurd (none-some m e)
earlier (x ∷ xs) ys zero m e = e
earlier (x ∷ xs) ys (suc i) m e = earlier xs ys i m e

pub last-module : (modules : List AModule) → slice_get (linked modules) (length modules) ≡ Some builtin_module
last-module [] = refl
last-module (m ∷ rest) = last-module rest

pub symbols-found : (modules : List AModule) (f : ℕ) (r : Routine) → slice_get (routines_of modules) f ≡ Some r → HasSymbol (linked modules) r
symbols-found modules f r e =
    all-at (HasSymbol (linked modules)) (routines_of modules) f r
    (started (linked modules) (routines_in (numbered_from (length modules) 0 builtin_symbols)) (routines_in (records modules))
    (routines-at (linked modules) (numbered_from (length modules) 0 builtin_symbols) (module-at (linked modules) (length modules) builtin_module (last-module modules)))
    (routines-at (linked modules) (records modules)
    (modules-at (linked modules) 0 modules (λ i m h. ap (slice_get (linked modules)) (let e : 0 + i ≡ i = omega arith in e) ∙ earlier modules (builtin_module ∷ []) i m h)))) e

-- One definition of a name

abbrev at : (unit symbol : ℕ) → Def
at unit symbol = record { «module» = unit; symbol = symbol }

pub order : (a b : ℕ) → (a < b) ⊎ ((a ≡ b) ⊎ (b < a))
order a b = grind (arith)

-- a full definition and another clash
full-clashes : (b : Body) (def : TextDef) → is_full b ≡ true → clash b (Text def) ≡ true
full-clashes (Text d) def h = refl
full-clashes (Data pieces) def h = refl
full-clashes (Common size) def h = absurd (cc h)
full-clashes Declared def h = absurd (cc h)
full-clashes Used def h = absurd (cc h)

pub symbol-in : (o : Option AModule) (k : ℕ) (s : Symbol) → option_and_then (λ (m : AModule). slice_get m.symbols k) o ≡ Some s →
    (m : AModule) × (o ≡ Some m) × (slice_get m.symbols k ≡ Some s)
symbol-in None k s h = absurd (none-some s h)
symbol-in (Some m) k s h = (m, refl, h)

-- two symbols of one module with one name and binding
pair-apart : (ss : List Symbol) (i j : ℕ) (a b : Symbol) → AllPairs AreApart ss → slice_get ss i ≡ Some a → slice_get ss j ≡ Some b → i < j → AreApart a b
pair-apart ss i j a b pairs e f h =
    subst (λ x. AreApart x b) (get_or_from_slice_get ss i a a e)
    (subst (λ y. AreApart (get_or ss i a) y) (get_or_from_slice_get ss j b a f) (pairs i j a h (slice_get_within ss j b f)))

one-number : (ss : List Symbol) (i j : ℕ) (a b : Symbol) → AllPairs AreApart ss → slice_get ss i ≡ Some a → slice_get ss j ≡ Some b → a.local ≡ b.local → a.name ≡ b.name → i ≡ j
one-number ss i j a b pairs e f binding name = by (order i j)
  where
    by : (i < j) ⊎ ((i ≡ j) ⊎ (j < i)) → i ≡ j
    by (inl h) = absurd (pair-apart ss i j a b pairs e f h binding name)
    by (inr (inl h)) = h
    by (inr (inr h)) = absurd (pair-apart ss j i b a pairs f e h (sym binding) (sym name))

all-linked : (modules : List AModule) → All IsValid modules → All IsValid (linked modules)
all-linked modules h = All-append IsValid modules (builtin_module ∷ []) h (All-cons IsValid builtin_module [] builtin_valid (All-nil IsValid))

module _ (modules : List AModule) (valid : All IsValid modules) (once : IsKept Once (linked modules)) where
  abbrev ms : List AModule
  ms = linked modules

  -- a text definition and a full one of the same name are one
  one-definition : (name : List ℕ) (d e : Def) (p : Defines ms name d) (q : Defines ms name e) (def : TextDef) → p.symbol.body ≡ Text def → is_full q.symbol.body ≡ true → e ≡ d
  one-definition name d e p q def text full = by (order e.«module» d.«module»)
    where
      late : clash q.symbol.body p.symbol.body ≡ true
      late = ap (clash q.symbol.body) text ∙ full-clashes q.symbol.body def full

      soon : clash p.symbol.body q.symbol.body ≡ true
      soon = ap (λ b. clash b q.symbol.body) text ∙ q.defining

      same-module : e.«module» ≡ d.«module» → e ≡ d
      same-module h =
          let a = symbol-in (slice_get ms e.«module») e.symbol q.symbol q.occurs.stands in
          let b = symbol-in (slice_get ms d.«module») d.symbol p.symbol p.occurs.stands in
          let m : a.0 ≡ b.0 = same_Some a.0 b.0 (sym a.1 ∙ ap (slice_get ms) h ∙ b.1) in
          let here : slice_get b.0.symbols e.symbol ≡ Some q.symbol = subst (λ (x : AModule). slice_get x.symbols e.symbol ≡ Some q.symbol) m a.2 in
          let v : IsValid b.0 = all-at IsValid ms d.«module» b.0 (all-linked modules valid) b.1 in
          let k : e.symbol ≡ d.symbol =
          one-number b.0.symbols e.symbol d.symbol q.symbol p.symbol v.distinct here b.2 (q.occurs.global ∙ sym p.occurs.global) (q.occurs.named ∙ sym p.occurs.named) in
          ap (λ n. at n e.symbol) h ∙ ap (at d.«module») k

      by : (e.«module» < d.«module») ⊎ ((e.«module» ≡ d.«module») ⊎ (d.«module» < e.«module»)) → e ≡ d
      by (inl h) = absurd (once name e d (record { early = q.symbol; late = p.symbol; early_occurs = q.occurs; late_occurs = p.occurs; ordered = h; broken = late }))
      by (inr (inl h)) = same-module h
      by (inr (inr h)) = absurd (once name d e (record { early = p.symbol; late = q.symbol; early_occurs = p.occurs; late_occurs = q.occurs; ordered = h; broken = soon }))

  -- a text definition is what its name stands for
  text-chosen : (name : List ℕ) (d : Def) (p : Defines ms name d) (def : TextDef) → p.symbol.body ≡ Text def → chosen ms name ≡ Some d
  text-chosen name d p def text = by (chosen ms name) refl
    where
      full : is_full p.symbol.body ≡ true
      full = ap is_full text

      by-full : (e : Def) (q : IsChosen ms name e) (b : Bool) → is_full q.defines.symbol.body ≡ b → e ≡ d
      by-full e q true h = one-definition name d e p q.defines def text h
      by-full e q false h = absurd (true≢false (sym full ∙ (q.common h d p).0))

      by : (o : Option Def) → chosen ms name ≡ o → o ≡ Some d
      by None e = absurd (none_is_undefined ms name e d p)
      by (Some x) e = ap Some (let q : IsChosen ms name x = chosen_is_chosen ms name x e in by-full x q (is_full q.defines.symbol.body) refl)

  abbrev text-defines : (d : Def) (s : Symbol) (def : TextDef) → symbol_at ms d ≡ Some s → s.body ≡ Text def → s.local ≡ false → Defines ms s.name d
  text-defines d s def e text global =
      record { symbol = s; occurs = record { stands = e; global = global; named = refl }; defining = ap is_definition text }

  -- each function's symbol stands for it
  pub stands_for_itself : (f : ℕ) (r : Routine) → slice_get (routines_of modules) f ≡ Some r → definition_of ms (own r) ≡ Some (own r)
  stands_for_itself f r e =
      let h : HasSymbol ms r = symbols-found modules f r e in
      ap (option_and_then (stands_for ms (own r))) h.stands ∙ by h h.symbol.local refl
    where
      by : (h : HasSymbol ms r) (b : Bool) → h.symbol.local ≡ b → (if b then Some (own r) else chosen ms h.symbol.name) ≡ Some (own r)
      by h true g = refl
      by h false g = text-chosen h.symbol.name (own r) (text-defines (own r) h.symbol r.def h.stands h.text g) r.def h.text
