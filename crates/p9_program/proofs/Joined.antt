-- Of modules that join: a global name has one full definition at most, which is its chosen one.
use Rattle.std.proofs.Common.{◌≡◌, ◌<◌, ◌⊎◌, inl, inr, ℕ, zero, suc, ◌+◌, Bool, true, false, not, if◌then◌else◌, Option, Some, None, List, [], ◌∷◌, map, filter, length, slice_get, refl, sym, ap, ◌∙◌, subst, arith}
use Rattle.std.specs.Prelude.{Contains, unwrap_or, option_and_then, codes}
use Rattle.std.proofs.lemmas.Bool.{true≢false}
use Rattle.p9_abs.specs.declared.modules.Body as body
use Rattle.p9_abs.specs.declared.modules.Body.TheVariants.{Declared, Used, Text, Data, Common}
use Rattle.p9_abs.specs.declared.modules.Def.{Def}
use Rattle.p9_abs.specs.declared.modules.Symbol as abs
use Rattle.p9_abs.specs.declared.modules.AModule.{AModule}
use Rattle.p9_abs.specs.Modules.{is_definition, is_full}
use Rattle.p9_abs.specs.Names.{symbol_at, Defines, IsChosen}
use Rattle.p9_abs.specs.BuiltIn.{builtin_symbols, builtin_module, linked}
use Rattle.p9_abs.specs.Programs.{chosen}
use Rattle.p9_abs.proofs.Choosing.{chosen_is_chosen, none_is_undefined}
use Rattle.p9_lang.specs.Names.{same_name}
use Rattle.p9_lang.specs.Modules.{Source}
use Rattle.p9_lang.specs.Symbols as symbols
use Rattle.p9_lang.specs.Symbols.{Symbol, SymbolKind}
use Rattle.p9_lang.specs.Layout.{size_of}
use Rattle.p9_cmean.specs.Joins.{Role, DefinesCode, DefinesData, DefinesCommon, role_of, Occurrence, occurrence, shared, builtin, all_shared, Occurs, may_meet, Join}
use Rattle.p9_sim.specs.Translating.{SameKind}
use Rattle.p9_program.specs.Linking.{AreTranslations}
use Rattle.p9_program.proofs.Lists.{order, some-same, none-some, get-right, get-first, get-either, get-within, get-some, get-map, contains-at, filter-at}
use Rattle.p9_program.proofs.Positions.{Found, found-symbol}

abbrev RoleIs : body.Body → Role → Type 0
RoleIs (Text def) role = role ≡ DefinesCode
RoleIs (Data pieces) role = role ≡ DefinesData
RoleIs (Common size) role = role ≡ DefinesCommon
RoleIs Declared role = Unit {0}
RoleIs Used role = Unit {0}

pub kind-role : (size : ℕ) (k : SymbolKind) (b : body.Body) → SameKind size k b → RoleIs b (role_of k)
kind-role size symbols.DeclaredOnly Declared h = tt
kind-role size symbols.DeclaredOnly Used h = tt
kind-role size symbols.DeclaredOnly (Text def) h = absurd h
kind-role size symbols.DeclaredOnly (Data pieces) h = absurd h
kind-role size symbols.DeclaredOnly (Common n) h = absurd h
kind-role size symbols.Used Declared h = tt
kind-role size symbols.Used Used h = tt
kind-role size symbols.Used (Text def) h = absurd h
kind-role size symbols.Used (Data pieces) h = absurd h
kind-role size symbols.Used (Common n) h = absurd h
kind-role size (symbols.Code item) Declared h = tt
kind-role size (symbols.Code item) Used h = tt
kind-role size (symbols.Code item) (Text def) h = refl
kind-role size (symbols.Code item) (Data pieces) h = absurd h
kind-role size (symbols.Code item) (Common n) h = absurd h
kind-role size (symbols.Data first) Declared h = tt
kind-role size (symbols.Data first) Used h = tt
kind-role size (symbols.Data first) (Text def) h = absurd h
kind-role size (symbols.Data first) (Data pieces) h = refl
kind-role size (symbols.Data first) (Common n) h = absurd h
kind-role size symbols.Common Declared h = tt
kind-role size symbols.Common Used h = tt
kind-role size symbols.Common (Text def) h = absurd h
kind-role size symbols.Common (Data pieces) h = absurd h
kind-role size symbols.Common (Common n) h = refl

-- THE BUILT-IN MODULE

record Builtin (k : ℕ) (s : abs.Symbol) : Type 0 where
  place : ℕ
  it : Occurrence
  found : slice_get builtin place ≡ Some it
  name : it.name ≡ s.name
  role : RoleIs s.body it.role

abbrev number_named : List ℕ → ℕ
number_named name = if same_name name (codes "exits") then 4 else (if same_name name (codes "read") then 5 else (if same_name name (codes "write") then 6 else 2))

builtin-get : (k : ℕ) (s : abs.Symbol) → slice_get builtin_symbols k ≡ Some s → s.local ≡ false → Builtin k s × (k ≡ number_named s.name)
builtin-get k s e g = by k e
  where
    go : (k place : ℕ) (q : abs.Symbol) (o : Occurrence) → Some q ≡ Some s → slice_get builtin place ≡ Some o → o.name ≡ q.name → RoleIs q.body o.role → k ≡ number_named q.name → Builtin k s × (k ≡ number_named s.name)
    go k place q o e f n r i =
        let z : q ≡ s = some-same q s e in
        (record { place = place; it = o; found = f; name = n ∙ ap (λ y. y.name) z; role = subst (λ y. RoleIs y.body o.role) z r }, i ∙ ap (λ y. number_named y.name) z)

    no : (q : abs.Symbol) → q.local ≡ true → Some q ≡ Some s → Builtin k s × (k ≡ number_named s.name)
    no q t e = absurd (true≢false (sym t ∙ (ap (λ y. y.local) (some-same q s e) ∙ g)))

    by : (i : ℕ) → slice_get builtin_symbols i ≡ Some s → Builtin i s × (i ≡ number_named s.name)
    by zero e = absurd (true≢false (ap (λ y. y.local) (some-same _ s e) ∙ g))
    by (suc zero) e = absurd (true≢false (ap (λ y. y.local) (some-same _ s e) ∙ g))
    by (suc (suc zero)) e = go 2 0 _ _ e refl refl tt refl
    by (suc (suc (suc zero))) e = absurd (true≢false (ap (λ y. y.local) (some-same _ s e) ∙ g))
    by (suc (suc (suc (suc zero)))) e = go 4 1 _ _ e refl refl refl refl
    by (suc (suc (suc (suc (suc zero))))) e = go 5 2 _ _ e refl refl refl refl
    by (suc (suc (suc (suc (suc (suc zero)))))) e = go 6 3 _ _ e refl refl refl refl
    by (suc (suc (suc (suc (suc (suc (suc zero))))))) e = absurd (true≢false (ap (λ y. y.local) (some-same _ s e) ∙ g))
    by (suc (suc (suc (suc (suc (suc (suc (suc k)))))))) e = absurd (none-some s e)

-- a symbol of the program is one of the modules', or the built-in module's
pub linked-either : (outs : List AModule) (d : Def) (s : abs.Symbol) → symbol_at (linked outs) d ≡ Some s
    → ((d.«module» < length outs) × (symbol_at outs d ≡ Some s)) ⊎ ((d.«module» ≡ length outs) × (slice_get builtin_symbols d.symbol ≡ Some s))
linked-either outs d s e = by (found-symbol (linked outs) d s e)
  where
    by : Found (linked outs) d s → ((d.«module» < length outs) × (symbol_at outs d ≡ Some s)) ⊎ ((d.«module» ≡ length outs) × (slice_get builtin_symbols d.symbol ≡ Some s))
    by f = go (get-either outs (builtin_module ∷ []) d.«module» f.out f.is_out)
      where
        go : (slice_get outs d.«module» ≡ Some f.out) ⊎ ((u : ℕ) × (d.«module» ≡ length outs + u) × (slice_get (builtin_module ∷ []) u ≡ Some f.out))
            → ((d.«module» < length outs) × (symbol_at outs d ≡ Some s)) ⊎ ((d.«module» ≡ length outs) × (slice_get builtin_symbols d.symbol ≡ Some s))
        go (inl h) = inl (get-within outs d.«module» f.out h, ap (option_and_then (λ m. slice_get m.symbols d.symbol)) h ∙ f.is_symbol)
        go (inr h) = last h.0 h.1 h.2
          where
            last : (u : ℕ) → d.«module» ≡ length outs + u → slice_get (builtin_module ∷ []) u ≡ Some f.out
                → ((d.«module» < length outs) × (symbol_at outs d ≡ Some s)) ⊎ ((d.«module» ≡ length outs) × (slice_get builtin_symbols d.symbol ≡ Some s))
            last zero z h = inr (omega (arith, z), ap (λ m. slice_get m.symbols d.symbol) (some-same builtin_module f.out h) ∙ f.is_symbol)
            last (suc u) z h = absurd (none-some f.out h)

pub linked-module : (outs : List AModule) (d : Def) (s : abs.Symbol) → symbol_at outs d ≡ Some s → symbol_at (linked outs) d ≡ Some s
linked-module outs d s e =
    let f = found-symbol outs d s e in
    ap (option_and_then (λ m. slice_get m.symbols d.symbol)) (get-first outs (builtin_module ∷ []) d.«module» f.out f.is_out) ∙ f.is_symbol

pub linked-builtin : (outs : List AModule) (k : ℕ) (s : abs.Symbol) → slice_get builtin_symbols k ≡ Some s → symbol_at (linked outs) (record { «module» = length outs; symbol = k }) ≡ Some s
linked-builtin outs k s e =
    let z : length outs + 0 ≡ length outs = omega arith in
    ap (option_and_then (λ m. slice_get m.symbols k)) (ap (slice_get (linked outs)) (sym z) ∙ get-right outs (builtin_module ∷ []) 0) ∙ e

module _ (modules : List Source) (outs : List AModule) (tr : AreTranslations modules outs) (join : Join modules) where
  -- a global symbol is an occurrence of its name
  record Shares (d : Def) (s : abs.Symbol) : Type 0 where
    it : Occurrence
    occurs : Occurs (all_shared modules) d.«module» it
    name : it.name ≡ s.name
    role : RoleIs s.body it.role

  source-at : (i : ℕ) → i < length outs → (m : Source) × (slice_get modules i ≡ Some m)
  source-at i l = let c = tr.count in get-some modules i (omega (arith, l, c))

  occurs-in : (i : ℕ) (row : List Occurrence) (o : Occurrence) (t : ℕ) → slice_get (all_shared modules) i ≡ Some row → slice_get row t ≡ Some o → Occurs (all_shared modules) i o
  occurs-in i row o t e h = subst (λ r. Contains (unwrap_or r []) o) (sym e) (contains-at row t o h)

  shares-module : (d : Def) (s : abs.Symbol) → d.«module» < length outs → symbol_at outs d ≡ Some s → s.local ≡ false → Shares d s
  shares-module d s l e g =
      let f = found-symbol outs d s e in
      let m = source-at d.«module» l in
      let t = tr.each d.«module» m.0 f.out m.1 f.is_out in
      let c = t.count in
      let k = get-within f.out.symbols d.symbol s f.is_symbol in
      let a = get-some (symbols.symbols m.0) d.symbol (omega (arith, k, c)) in
      let same = t.same d.symbol a.0 s a.1 f.is_symbol in
      let global : not a.0.is_local ≡ true = ap not (sym same.linkage ∙ g) in
      let row = filter-at (λ z. not z.is_local) (symbols.symbols m.0) d.symbol a.0 a.1 global in
      let o : Occurrence = occurrence m.0.tags a.0 in
      record {
        it = o;
        occurs = occurs-in d.«module» (shared m.0) o row.0 (get-first (map shared modules) (builtin ∷ []) d.«module» (shared m.0) (get-map shared modules d.«module» m.0 m.1))
            (get-map (occurrence m.0.tags) (filter (λ z. not z.is_local) (symbols.symbols m.0)) row.0 a.0 row.1);
        name = sym same.name;
        role = kind-role (size_of m.0.tags a.0.type) a.0.kind s.body same.kind;
      }

  map-count : (ms : List Source) → length (map shared ms) ≡ length ms
  map-count [] = refl
  map-count (m ∷ ms) = ap suc (map-count ms)

  shares-builtin : (d : Def) (s : abs.Symbol) → d.«module» ≡ length outs → slice_get builtin_symbols d.symbol ≡ Some s → s.local ≡ false → Shares d s
  shares-builtin d s z e g =
      let b = (builtin-get d.symbol s e g).0 in
      let c = tr.count in let mc = map-count modules in
      let y : d.«module» ≡ length (map shared modules) + 0 = omega (arith, z, c, mc) in
      record {
        it = b.it;
        occurs = occurs-in d.«module» builtin b.it b.place (ap (slice_get (all_shared modules)) y ∙ get-right (map shared modules) (builtin ∷ []) 0) b.found;
        name = b.name;
        role = b.role;
      }

  shares : (d : Def) (s : abs.Symbol) → symbol_at (linked outs) d ≡ Some s → s.local ≡ false → Shares d s
  shares d s e g = by (linked-either outs d s e)
    where
      by : ((d.«module» < length outs) × (symbol_at outs d ≡ Some s)) ⊎ ((d.«module» ≡ length outs) × (slice_get builtin_symbols d.symbol ≡ Some s)) → Shares d s
      by (inl h) = shares-module d s h.0 h.1 g
      by (inr h) = shares-builtin d s h.0 h.1 g

  -- in one module a name has one symbol
  one-symbol : (d e : Def) (s q : abs.Symbol) → symbol_at (linked outs) d ≡ Some s → symbol_at (linked outs) e ≡ Some q → s.local ≡ false → q.local ≡ false → s.name ≡ q.name → d.«module» ≡ e.«module» → d ≡ e
  one-symbol d e s q es eq gs gq names same = by (linked-either outs d s es) (linked-either outs e q eq)
    where
      both : d.symbol ≡ e.symbol → d ≡ e
      both z = ap (λ i. record { «module» = i; symbol = d.symbol }) same ∙ ap (λ k. record { «module» = e.«module»; symbol = k }) z

      by : ((d.«module» < length outs) × (symbol_at outs d ≡ Some s)) ⊎ ((d.«module» ≡ length outs) × (slice_get builtin_symbols d.symbol ≡ Some s))
          → ((e.«module» < length outs) × (symbol_at outs e ≡ Some q)) ⊎ ((e.«module» ≡ length outs) × (slice_get builtin_symbols e.symbol ≡ Some q)) → d ≡ e
      by (inl h) (inl k) =
          let f = found-symbol outs d s h.1 in let g = found-symbol outs e q k.1 in
          let m = source-at d.«module» h.0 in
          let o : f.out ≡ g.out = some-same f.out g.out (sym f.is_out ∙ (ap (slice_get outs) same ∙ g.is_out)) in
          both ((tr.each d.«module» m.0 f.out m.1 f.is_out).distinct d.symbol e.symbol s q f.is_symbol (subst (λ z. slice_get z.symbols e.symbol ≡ Some q) (sym o) g.is_symbol) names)
      by (inl h) (inr k) = let l = h.0 in let z = k.0 in absurd (omega (arith, l, z, same))
      by (inr h) (inl k) = let l = k.0 in let z = h.0 in absurd (omega (arith, l, z, same))
      by (inr h) (inr k) = both ((builtin-get d.symbol s h.1 gs).1 ∙ (ap number_named names ∙ sym (builtin-get e.symbol q k.1 gq).1))

  clash : (d e : Def) (s q : abs.Symbol) → symbol_at (linked outs) d ≡ Some s → symbol_at (linked outs) e ≡ Some q → s.local ≡ false → q.local ≡ false → s.name ≡ q.name
      → ((r t : Role) → RoleIs s.body r → RoleIs q.body t → may_meet r t ≡ false) → d.«module» < e.«module» → ⊥
  clash d e s q es eq gs gq names never l =
      let a = shares d s es gs in let b = shares e q eq gq in
      let m = join.meet d.«module» e.«module» a.it b.it l a.occurs b.occurs (a.name ∙ (names ∙ sym b.name)) in
      true≢false (sym m.once ∙ never a.it.role b.it.role a.role b.role)

  full-meet : (b k : body.Body) → is_full b ≡ true → is_full k ≡ true → (r t : Role) → RoleIs b r → RoleIs k t → may_meet r t ≡ false
  full-meet (Text d) (Text e) f g r t h i = ap (λ z. may_meet z t) h ∙ ap (may_meet DefinesCode) i
  full-meet (Text d) (Data e) f g r t h i = ap (λ z. may_meet z t) h ∙ ap (may_meet DefinesCode) i
  full-meet (Data d) (Text e) f g r t h i = ap (λ z. may_meet z t) h ∙ ap (may_meet DefinesData) i
  full-meet (Data d) (Data e) f g r t h i = ap (λ z. may_meet z t) h ∙ ap (may_meet DefinesData) i
  full-meet Declared k f g r t h i = absurd (true≢false (sym f))
  full-meet Used k f g r t h i = absurd (true≢false (sym f))
  full-meet (Common n) k f g r t h i = absurd (true≢false (sym f))
  full-meet (Text d) Declared f g r t h i = absurd (true≢false (sym g))
  full-meet (Text d) Used f g r t h i = absurd (true≢false (sym g))
  full-meet (Text d) (Common n) f g r t h i = absurd (true≢false (sym g))
  full-meet (Data d) Declared f g r t h i = absurd (true≢false (sym g))
  full-meet (Data d) Used f g r t h i = absurd (true≢false (sym g))
  full-meet (Data d) (Common n) f g r t h i = absurd (true≢false (sym g))

  -- a global name is fully defined once
  pub one-full : (d e : Def) (s q : abs.Symbol) → symbol_at (linked outs) d ≡ Some s → symbol_at (linked outs) e ≡ Some q → s.local ≡ false → q.local ≡ false → s.name ≡ q.name
      → is_full s.body ≡ true → is_full q.body ≡ true → d ≡ e
  one-full d e s q es eq gs gq names fs fq = by (order d.«module» e.«module»)
    where
      by : (d.«module» < e.«module») ⊎ ((d.«module» ≡ e.«module») ⊎ (e.«module» < d.«module»)) → d ≡ e
      by (inl l) = absurd (clash d e s q es eq gs gq names (full-meet s.body q.body fs fq) l)
      by (inr (inl z)) = one-symbol d e s q es eq gs gq names z
      by (inr (inr l)) = absurd (clash e d q s eq es gq gs (sym names) (full-meet q.body s.body fq fs) l)

  -- a name that is common isn't code's
  pub common-code : (d e : Def) (s q : abs.Symbol) (size : ℕ) (def : _) → symbol_at (linked outs) d ≡ Some s → symbol_at (linked outs) e ≡ Some q → s.local ≡ false → q.local ≡ false → s.name ≡ q.name
      → s.body ≡ Common size → q.body ≡ Text def → ⊥
  common-code d e s q size def es eq gs gq names bs bq = by (order d.«module» e.«module»)
    where
      first : (r t : Role) → RoleIs s.body r → RoleIs q.body t → may_meet r t ≡ false
      first r t h i = ap (λ z. may_meet z t) (subst (λ z. RoleIs z r) bs h) ∙ ap (may_meet DefinesCommon) (subst (λ z. RoleIs z t) bq i)

      second : (r t : Role) → RoleIs q.body r → RoleIs s.body t → may_meet r t ≡ false
      second r t h i = ap (λ z. may_meet z t) (subst (λ z. RoleIs z r) bq h) ∙ ap (may_meet DefinesCode) (subst (λ z. RoleIs z t) bs i)

      by : (d.«module» < e.«module») ⊎ ((d.«module» ≡ e.«module») ⊎ (e.«module» < d.«module»)) → ⊥
      by (inl l) = clash d e s q es eq gs gq names first l
      by (inr (inl z)) =
          let y = one-symbol d e s q es eq gs gq names z in
          let w : s ≡ q = some-same s q (sym es ∙ (ap (symbol_at (linked outs)) y ∙ eq)) in
          let v : Common size ≡ Text def = sym bs ∙ (ap (λ i. i.body) w ∙ bq) in
          cc
      by (inr (inr l)) = clash e d q s eq es gq gs (sym names) second l

  full-defines : (b : body.Body) → is_full b ≡ true → is_definition b ≡ true
  full-defines (Text d) h = refl
  full-defines (Data p) h = refl
  full-defines (Common n) h = refl
  full-defines Declared h = h
  full-defines Used h = h

  pub defines-of : (name : List ℕ) (d : Def) (s : abs.Symbol) → symbol_at (linked outs) d ≡ Some s → s.local ≡ false → s.name ≡ name → is_definition s.body ≡ true → Defines (linked outs) name d
  defines-of name d s e g n h = record { symbol = s; occurs = record { stands = e; global = g; named = n }; defining = h }

  -- the chosen definition of a name that has a full one is that
  pub chosen-full : (name : List ℕ) (d : Def) (s : abs.Symbol) → symbol_at (linked outs) d ≡ Some s → s.local ≡ false → s.name ≡ name → is_full s.body ≡ true → chosen (linked outs) name ≡ Some d
  unfolding defines-of
  chosen-full name d s e g n f = by (chosen (linked outs) name) refl
    where
      here : Defines (linked outs) name d
      here = defines-of name d s e g n (full-defines s.body f)

      which : (k : Def) (c : IsChosen (linked outs) name k) (b : Bool) → is_full c.defines.symbol.body ≡ b → k ≡ d
      which k c true t = one-full k d c.defines.symbol s c.defines.occurs.stands e c.defines.occurs.global g (c.defines.occurs.named ∙ sym n) t f
      which k c false t = absurd (true≢false (sym f ∙ (c.common t d here).0))

      by : (o : Option Def) → chosen (linked outs) name ≡ o → chosen (linked outs) name ≡ Some d
      by None z = absurd (none_is_undefined (linked outs) name z d here)
      by (Some k) z = z ∙ ap Some (which k (chosen_is_chosen (linked outs) name k z) (is_full (chosen_is_chosen (linked outs) name k z).defines.symbol.body) refl)
