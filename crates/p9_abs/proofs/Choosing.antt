-- The chosen definition of a name: the first record that passes a test, in the order of modules and
-- symbols.
use Rattle.std.proofs.Common.{◌≡◌, ◌<◌, ◌⊎◌, inl, inr, ℕ, zero, suc, ◌+◌, ◌-◌, ◌&&◌, ◌==◌, Bool, true, false, not, cond, Option, Some, None, List, [], ◌∷◌, ◌++◌, find, length, slice_get, bytes_eq, refl, sym, ap, ◌∙◌, subst, arith}
use Rattle.std.specs.Prelude.{option_map, option_and_then}
use Rattle.std.specs.Option.{option_or}
use Rattle.std.specs.Cmp.Lexicographic.{bytes_decides}
use Rattle.std.proofs.lemmas.List.Folds.{find-append}
use Rattle.std.proofs.lemmas.Option.{none-some, same_Some}
use Rattle.std.proofs.lemmas.Bool.{true≢false, and_parts, and_from}
use Rattle.p9_abs.specs.declared.modules.Body.{Body}
use Rattle.p9_abs.specs.declared.modules.Body.TheVariants.{Declared, Used, Text, Data, Common}
use Rattle.p9_abs.specs.declared.modules.Def.{Def}
use Rattle.p9_abs.specs.declared.modules.Symbol.{Symbol}
use Rattle.p9_abs.specs.declared.modules.AModule.{AModule}
use Rattle.p9_abs.specs.Modules.{is_definition, is_full}
use Rattle.p9_abs.specs.Names.{symbol_at, Occurs, IsBefore, IsNotAfter, Defines, IsUndefined, IsChosen}
use Rattle.p9_abs.specs.Programs.{Numbered, numbered_from, records_from, records, is_global_named, defines_fully, defines_name, or_else, chosen}
use Rattle.p9_abs.specs.Laws.{ChosenIsChosen, NoneIsUndefined}

at : ℕ → ℕ → Def
at i k = record { «module» = i; symbol = k }

numbered : ℕ → ℕ → Symbol → Numbered
numbered i k s = record { def = record { «module» = i; symbol = k }; symbol = s }

module _ (p : Numbered → Bool) where
  -- Symbols of one module

  -- none of these passes the test
  NoneIn : ℕ → ℕ → List Symbol → Type 0
  NoneIn unit k ss = (j : ℕ) (s : Symbol) → slice_get ss j ≡ Some s → p (numbered unit (k + j) s) ≡ false

  record FoundIn (unit k : ℕ) (ss : List Symbol) (r : Numbered) : Type 0 where
    index : ℕ
    got : slice_get ss index ≡ Some r.symbol
    is : r.def ≡ at unit (k + index)
    passes : p r ≡ true
    first : (j : ℕ) (s : Symbol) → j < index → slice_get ss j ≡ Some s → p (numbered unit (k + j) s) ≡ false

  none-cons : (unit k : ℕ) (s : Symbol) (ss : List Symbol) → p (numbered unit k s) ≡ false → NoneIn unit (k + 1) ss → NoneIn unit k (s ∷ ss)
  unfolding NoneIn numbered
  none-cons unit k s ss h rest zero t e =
      let z : s ≡ t = same_Some s t e in
      let n : k + 0 ≡ k = omega arith in
      subst (λ u. p (numbered unit u t) ≡ false) (sym n) (subst (λ u. p (numbered unit k u) ≡ false) z h)
  none-cons unit k s ss h rest (suc j) t e =
      let n : k + 1 + j ≡ k + suc j = omega arith in
      subst (λ u. p (numbered unit u t) ≡ false) n (rest j t e)

  in-module : (unit k : ℕ) (ss : List Symbol) → find p (numbered_from unit k ss) ≡ None → NoneIn unit k ss
  unfolding NoneIn numbered
  in-module unit k [] h = λ j s e. absurd (none-some s e)
  in-module unit k (s ∷ ss) h = by (p (numbered unit k s)) refl h (in-module unit (k + 1) ss)
    where
      by : (t : Bool) → p (numbered unit k s) ≡ t → cond t (Some (numbered unit k s)) (find p (numbered_from unit (k + 1) ss)) ≡ None
          → (find p (numbered_from unit (k + 1) ss) ≡ None → NoneIn unit (k + 1) ss) → NoneIn unit k (s ∷ ss)
      by true e g rest = absurd (none-some (numbered unit k s) (sym g))
      by false e g rest = none-cons unit k s ss e (rest g)

  found-module : (unit k : ℕ) (ss : List Symbol) (r : Numbered) → find p (numbered_from unit k ss) ≡ Some r → FoundIn unit k ss r
  unfolding numbered at
  found-module unit k [] r h = absurd (none-some r h)
  found-module unit k (s ∷ ss) r h = by (p (numbered unit k s)) refl h (found-module unit (k + 1) ss r)
    where
      by : (t : Bool) → p (numbered unit k s) ≡ t → cond t (Some (numbered unit k s)) (find p (numbered_from unit (k + 1) ss)) ≡ Some r
          → (find p (numbered_from unit (k + 1) ss) ≡ Some r → FoundIn unit (k + 1) ss r) → FoundIn unit k (s ∷ ss) r
      by true e g rest =
          let z : numbered unit k s ≡ r = same_Some (numbered unit k s) r g in
          let n : k ≡ k + 0 = omega arith in
          record {
            index = 0;
            got = ap (λ u. Some u.symbol) z;
            is = ap (λ u. u.def) (sym z) ∙ ap (at unit) n;
            passes = ap p (sym z) ∙ e;
            first = λ j t l q. absurd (omega arith);
          }
      by false e g rest =
          let f = rest g in
          let n : k + 1 + f.index ≡ k + suc f.index = omega arith in
          record {
            index = suc f.index;
            got = f.got;
            is = f.is ∙ ap (at unit) n;
            passes = f.passes;
            first = λ j t l q. earlier f j t l q;
          }
        where
          earlier : (f : FoundIn unit (k + 1) ss r) (j : ℕ) (t : Symbol) → j < suc f.index → slice_get (s ∷ ss) j ≡ Some t → p (numbered unit (k + j) t) ≡ false
          earlier f zero t l q =
              let z : s ≡ t = same_Some s t q in
              let n : k + 0 ≡ k = omega arith in
              subst (λ u. p (numbered unit u t) ≡ false) (sym n) (subst (λ u. p (numbered unit k u) ≡ false) z e)
          earlier f (suc j) t l q =
              let n : k + 1 + j ≡ k + suc j = omega arith in
              subst (λ u. p (numbered unit u t) ≡ false) n (f.first j t (omega arith) q)

  -- Several modules

  NoneFrom : ℕ → List AModule → Type 0
  NoneFrom unit ms = (i j : ℕ) (m : AModule) (s : Symbol) → slice_get ms i ≡ Some m → slice_get m.symbols j ≡ Some s → p (numbered (unit + i) j s) ≡ false

  record FoundFrom (unit : ℕ) (ms : List AModule) (r : Numbered) : Type 0 where
    index : ℕ
    it : AModule
    got : slice_get ms index ≡ Some it
    inside : FoundIn (unit + index) 0 it.symbols r
    first : (i j : ℕ) (m : AModule) (s : Symbol) → i < index → slice_get ms i ≡ Some m → slice_get m.symbols j ≡ Some s → p (numbered (unit + i) j s) ≡ false

  none-first : (unit : ℕ) (m : AModule) (j : ℕ) (n : AModule) (s : Symbol) → NoneIn unit 0 m.symbols → Some m ≡ Some n → slice_get n.symbols j ≡ Some s
      → p (numbered (unit + 0) j s) ≡ false
  unfolding NoneIn
  none-first unit m j n s none e q =
      let z : m ≡ n = same_Some m n e in
      let a : unit ≡ unit + 0 = omega arith in
      let b : 0 + j ≡ j = omega arith in
      subst (λ u. p (numbered u j s) ≡ false) a (subst (λ u. p (numbered unit u s) ≡ false) b (none j s (subst (λ o. slice_get o.symbols j ≡ Some s) (sym z) q)))

  both-none : (a b : Option Numbered) → option_or a b ≡ None → (a ≡ None) × (b ≡ None)
  both-none None b h = (refl, h)
  both-none (Some x) b h = absurd (none-some x (sym h))

  in-modules : (unit : ℕ) (ms : List AModule) → find p (records_from unit ms) ≡ None → NoneFrom unit ms
  unfolding NoneFrom
  in-modules unit [] h = λ i j m s e q. absurd (none-some m e)
  in-modules unit (m ∷ ms) h =
      let parts = both-none (find p (numbered_from unit 0 m.symbols)) (find p (records_from (unit + 1) ms)) (sym (find-append p (numbered_from unit 0 m.symbols) (records_from (unit + 1) ms)) ∙ h) in
      by (in-module unit 0 m.symbols parts.0) (in-modules (unit + 1) ms parts.1)
    where
      by : NoneIn unit 0 m.symbols → NoneFrom (unit + 1) ms → (i j : ℕ) (n : AModule) (s : Symbol) → slice_get (m ∷ ms) i ≡ Some n → slice_get n.symbols j ≡ Some s → p (numbered (unit + i) j s) ≡ false
      by none rest zero j n s e q = none-first unit m j n s none e q
      by none rest (suc i) j n s e q =
          let a : unit + 1 + i ≡ unit + suc i = omega arith in
          subst (λ u. p (numbered u j s) ≡ false) a (rest i j n s e q)

  one-of : (a b : Option Numbered) (r : Numbered) → option_or a b ≡ Some r → (a ≡ Some r) ⊎ ((a ≡ None) × (b ≡ Some r))
  one-of None b r h = inr (refl, h)
  one-of (Some x) b r h = inl h

  found-modules : (unit : ℕ) (ms : List AModule) (r : Numbered) → find p (records_from unit ms) ≡ Some r → FoundFrom unit ms r
  found-modules unit [] r h = absurd (none-some r h)
  found-modules unit (m ∷ ms) r h =
      by (found-modules (unit + 1) ms r)
      (one-of (find p (numbered_from unit 0 m.symbols)) (find p (records_from (unit + 1) ms)) r (sym (find-append p (numbered_from unit 0 m.symbols) (records_from (unit + 1) ms)) ∙ h))
    where
      shift : (f : FoundFrom (unit + 1) ms r) → NoneIn unit 0 m.symbols → (i j : ℕ) (n : AModule) (s : Symbol) → i < suc f.index → slice_get (m ∷ ms) i ≡ Some n
          → slice_get n.symbols j ≡ Some s → p (numbered (unit + i) j s) ≡ false
      shift f none zero j n s l e q = none-first unit m j n s none e q
      shift f none (suc i) j n s l e q =
          let a : unit + 1 + i ≡ unit + suc i = omega arith in
          subst (λ u. p (numbered u j s) ≡ false) a (f.first i j n s (omega arith) e q)

      by : (find p (records_from (unit + 1) ms) ≡ Some r → FoundFrom (unit + 1) ms r)
          → (find p (numbered_from unit 0 m.symbols) ≡ Some r) ⊎ ((find p (numbered_from unit 0 m.symbols) ≡ None) × (find p (records_from (unit + 1) ms) ≡ Some r))
          → FoundFrom unit (m ∷ ms) r
      by rest (inl e) =
          let a : unit ≡ unit + 0 = omega arith in
          record {
            index = 0;
            it = m;
            got = refl;
            inside = subst (λ u. FoundIn u 0 m.symbols r) a (found-module unit 0 m.symbols r e);
            first = λ i j n s l g q. absurd (omega arith);
          }
      by rest (inr e) =
          let f : FoundFrom (unit + 1) ms r = rest e.1 in
          let a : unit + 1 + f.index ≡ unit + suc f.index = omega arith in
          record {
            index = suc f.index;
            it = f.it;
            got = f.got;
            inside = subst (λ u. FoundIn u 0 f.it.symbols r) a f.inside;
            first = shift f (in-module unit 0 m.symbols e.0);
          }

  -- By the numbers of modules and symbols

  NoneAt : List AModule → Type 0
  NoneAt ms = (d : Def) (s : Symbol) → symbol_at ms d ≡ Some s → p (record { def = d; symbol = s }) ≡ false

  record FoundAt (ms : List AModule) (r : Numbered) : Type 0 where
    stands : symbol_at ms r.def ≡ Some r.symbol
    passes : p r ≡ true
    first : (d : Def) (s : Symbol) → IsBefore d r.def → symbol_at ms d ≡ Some s → p (record { def = d; symbol = s }) ≡ false

  stands-in : (o : Option AModule) (k : ℕ) (s : Symbol) → option_and_then (λ m. slice_get m.symbols k) o ≡ Some s → (m : AModule) × (o ≡ Some m) × (slice_get m.symbols k ≡ Some s)
  stands-in None k s h = absurd (none-some s h)
  stands-in (Some m) k s h = (m, refl, h)

  none-at : (ms : List AModule) → find p (records ms) ≡ None → NoneAt ms
  unfolding NoneAt NoneFrom numbered
  none-at ms h d s e =
      let w = stands-in (slice_get ms d.«module») d.symbol s e in
      let a : 0 + d.«module» ≡ d.«module» = omega arith in
      subst (λ u. p (numbered u d.symbol s) ≡ false) a (in-modules 0 ms h d.«module» d.symbol w.0 s w.1 w.2)

  found-at : (ms : List AModule) (r : Numbered) → find p (records ms) ≡ Some r → FoundAt ms r
  unfolding numbered at
  found-at ms r h = by (found-modules 0 ms r h)
    where
      by : FoundFrom 0 ms r → FoundAt ms r
      by f =
          let a : 0 + f.index ≡ f.index = omega arith in
          let b : 0 + f.inside.index ≡ f.inside.index = omega arith in
          let is : r.def ≡ at f.index f.inside.index = f.inside.is ∙ (ap (λ u. at u (0 + f.inside.index)) a ∙ ap (at f.index) b) in
          record {
            stands = ap (symbol_at ms) is ∙ (ap (option_and_then (λ m. slice_get m.symbols f.inside.index)) f.got ∙ f.inside.got);
            passes = f.inside.passes;
            first = λ d s before e. earlier f d s (subst (IsBefore d) is before) (stands-in (slice_get ms d.«module») d.symbol s e);
          }
        where
          earlier : (f : FoundFrom 0 ms r) (d : Def) (s : Symbol) → IsBefore d (at f.index f.inside.index) → (m : AModule) × (slice_get ms d.«module» ≡ Some m) × (slice_get m.symbols d.symbol ≡ Some s)
              → p (record { def = d; symbol = s }) ≡ false
          earlier f d s (inl l) w =
              let a : 0 + d.«module» ≡ d.«module» = omega arith in
              subst (λ u. p (numbered u d.symbol s) ≡ false) a (f.first d.«module» d.symbol w.0 s l w.1 w.2)
          earlier f d s (inr l) w =
              let same : w.0 ≡ f.it = same_Some w.0 f.it (sym w.1 ∙ (ap (slice_get ms) l.0 ∙ f.got)) in
              let got : slice_get f.it.symbols d.symbol ≡ Some s = subst (λ m. slice_get m.symbols d.symbol ≡ Some s) same w.2 in
              let a : 0 + f.index ≡ d.«module» = omega (arith, l.0) in
              let b : 0 + d.symbol ≡ d.symbol = omega arith in
              subst (λ u. p (numbered u d.symbol s) ≡ false) a (subst (λ u. p (numbered (0 + f.index) u s) ≡ false) b (f.inside.first d.symbol s l.1 got))

-- Choosing

full-defines : (b : Body) → is_full b ≡ true → is_definition b ≡ true
full-defines (Text def) h = refl
full-defines (Data pieces) h = refl
full-defines (Common size) h = refl
full-defines Declared h = h
full-defines Used h = h

not-true : (b : Bool) → not b ≡ true → b ≡ false
not-true true h = absurd (true≢false (sym h))
not-true false h = refl

occurs : (ms : List AModule) (name : List ℕ) (r : Numbered) → symbol_at ms r.def ≡ Some r.symbol → is_global_named name r.symbol ≡ true → Occurs ms name r.def r.symbol
occurs ms name r e h =
    let g = and_parts (not r.symbol.local) (bytes_eq r.symbol.name name) h in
    record { stands = e; global = not-true r.symbol.local g.0; named = (bytes_decides r.symbol.name name).0 g.1 }

-- a definition passes the tests of its name
named-so : (ms : List AModule) (name : List ℕ) (d : Def) (s : Symbol) → Occurs ms name d s → is_global_named name s ≡ true
named-so ms name d s o = and_from (not s.local) (bytes_eq s.name name) (ap not o.global) ((bytes_decides s.name name).1 o.named)

second-false : (a b : Bool) → (a && b) ≡ false → a ≡ true → b ≡ false
second-false true b h e = h
second-false false b h e = absurd (true≢false (sym e))

full-chosen : (ms : List AModule) (name : List ℕ) (r : Numbered) → find (defines_fully name) (records ms) ≡ Some r → IsChosen ms name r.def
full-chosen ms name r h = by (found-at (defines_fully name) ms r h)
  where
    by : FoundAt (defines_fully name) ms r → IsChosen ms name r.def
    by f =
        let g = and_parts (is_global_named name r.symbol) (is_full r.symbol.body) f.passes in
        record {
          defines = record { symbol = r.symbol; occurs = occurs ms name r f.stands g.0; defining = full-defines r.symbol.body g.1 };
          common = λ e other d. absurd (true≢false (sym g.1 ∙ e));
        }

before-or : (d e : Def) → (IsNotAfter d e) ⊎ IsBefore e d
before-or d e = by (order d.«module» e.«module») (order d.symbol e.symbol)
  where
    order : (a b : ℕ) → (a < b) ⊎ ((a ≡ b) ⊎ (b < a))
    order a b = grind (arith)

    by : ((d.«module» < e.«module») ⊎ ((d.«module» ≡ e.«module») ⊎ (e.«module» < d.«module»))) → ((d.symbol < e.symbol) ⊎ ((d.symbol ≡ e.symbol) ⊎ (e.symbol < d.symbol)))
        → (IsNotAfter d e) ⊎ IsBefore e d
    by (inl l) o = inl (inr (inl l))
    by (inr (inr l)) o = inr (inl l)
    by (inr (inl same)) (inl l) = inl (inr (inr (same, l)))
    by (inr (inl same)) (inr (inr l)) = inr (inr (sym same, l))
    by (inr (inl same)) (inr (inl also)) = inl (inl (ap (λ u. record { «module» = u; symbol = d.symbol }) same ∙ ap (λ u. record { «module» = e.«module»; symbol = u }) also))

common-chosen : (ms : List AModule) (name : List ℕ) (r : Numbered) → find (defines_fully name) (records ms) ≡ None → find (defines_name name) (records ms) ≡ Some r → IsChosen ms name r.def
unfolding NoneAt
common-chosen ms name r none h = by (found-at (defines_name name) ms r h) (none-at (defines_fully name) ms none)
  where
    by : FoundAt (defines_name name) ms r → ((d : Def) (s : Symbol) → symbol_at ms d ≡ Some s → defines_fully name (record { def = d; symbol = s }) ≡ false) → IsChosen ms name r.def
    by f never =
        let g = and_parts (is_global_named name r.symbol) (is_definition r.symbol.body) f.passes in
        record {
          defines = record { symbol = r.symbol; occurs = occurs ms name r f.stands g.0; defining = g.1 };
          common = λ e d other. (
            second-false (is_global_named name other.symbol) (is_full other.symbol.body) (never d other.symbol other.occurs.stands) (named-so ms name d other.symbol other.occurs),
            later d other (before-or r.def d),
          );
        }
      where
        later : (d : Def) (other : Defines ms name d) → (IsNotAfter r.def d) ⊎ IsBefore d r.def → IsNotAfter r.def d
        later d other (inl h) = h
        later d other (inr h) =
            absurd (true≢false (sym (and_from (is_global_named name other.symbol) (is_definition other.symbol.body) (named-so ms name d other.symbol other.occurs) other.defining)
            ∙ f.first d other.symbol h other.occurs.stands))

pub chosen_is_chosen : ChosenIsChosen
chosen_is_chosen ms name d h = by (find (defines_fully name) (records ms)) (find (defines_name name) (records ms)) refl refl h
  where
    by : (a b : Option Numbered) → find (defines_fully name) (records ms) ≡ a → find (defines_name name) (records ms) ≡ b → or_else a b ≡ Some d → IsChosen ms name d
    by (Some r) b ea eb g = subst (IsChosen ms name) (same_Some r.def d g) (full-chosen ms name r ea)
    by None (Some r) ea eb g = subst (IsChosen ms name) (same_Some r.def d g) (common-chosen ms name r ea eb)
    by None None ea eb g = absurd (none-some d g)

pub none_is_undefined : NoneIsUndefined
unfolding NoneAt
none_is_undefined ms name h = by (find (defines_fully name) (records ms)) (find (defines_name name) (records ms)) refl refl h
  where
    by : (a b : Option Numbered) → find (defines_fully name) (records ms) ≡ a → find (defines_name name) (records ms) ≡ b → or_else a b ≡ None → IsUndefined ms name
    by (Some r) b ea eb g = absurd (none-some r.def (sym g))
    by None (Some r) ea eb g = absurd (none-some r.def (sym g))
    by None None ea eb g = λ d def. absurd (true≢false
        (sym (and_from (is_global_named name def.symbol) (is_definition def.symbol.body) (named-so ms name d def.symbol def.occurs) def.defining)
        ∙ none-at (defines_name name) ms eb d def.symbol def.occurs.stands))
