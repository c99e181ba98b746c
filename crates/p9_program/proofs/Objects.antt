-- The objects of the union, and the records that stand where they are made.
use Rattle.std.proofs.Common.{◌≡◌, ◌≤◌, ◌<◌, ◌⊎◌, inl, inr, ℕ, zero, suc, ◌+◌, ◌&&◌, ◌||◌, Bool, true, false, not, if◌then◌else◌, Option, Some, None, List, [], ◌∷◌, length, slice_get, refl, sym, ap, ◌∙◌, subst, arith}
use Rattle.std.specs.Prelude.{option_and_then}
use Rattle.std.specs.List.{list_any}
use Rattle.std.proofs.lemmas.Bool.{true≢false}
use Rattle.p9_abs.specs.declared.modules.Body as body
use Rattle.p9_abs.specs.declared.modules.Body.TheVariants.{Declared, Used, Text, Data, Common}
use Rattle.p9_abs.specs.declared.modules.DataPiece.{DataPiece}
use Rattle.p9_abs.specs.declared.modules.Def.{Def}
use Rattle.p9_abs.specs.declared.modules.Symbol as abs
use Rattle.p9_abs.specs.declared.modules.AModule.{AModule}
use Rattle.p9_abs.specs.Modules.{is_definition, is_full}
use Rattle.p9_abs.specs.Names.{symbol_at, IsBefore, IsNotAfter, Defines, IsChosen}
use Rattle.p9_abs.specs.BuiltIn.{builtin_symbols, linked}
use Rattle.p9_abs.specs.Programs.{Numbered, chosen, stands_for, definition_of}
use Rattle.p9_abs.proofs.Choosing.{chosen_is_chosen, none_is_undefined}
use Rattle.p9_lang.specs.Names.{same_name}
use Rattle.p9_lang.specs.Layout.{size_of}
use Rattle.p9_lang.specs.Modules.{Source}
use Rattle.p9_lang.specs.Symbols as symbols
use Rattle.p9_lang.specs.Symbols.{Symbol, SymbolKind}
use Rattle.p9_cmean.specs.Joins.{Join}
use Rattle.p9_cmean.specs.Union.{Entry, entries_from, is_data, is_common, is_shared_data, is_shared_common, makes_object, makers, union_of}
use Rattle.p9_sim.specs.Translating.{SameKind, SameSymbol}
use Rattle.p9_program.specs.Linking.{AreTranslations, makers_from, makers_of}
use Rattle.p9_program.proofs.Lists.{some-same, none-some, get-within, get-some, any-at, same-of}
use Rattle.p9_program.proofs.Positions.{found-symbol, symbol-of, Stands, SameShape, shape-of, stands-of, stands-entry, place-before}
use Rattle.p9_program.proofs.Joined.{linked-either, linked-module, common-code, chosen-full, defines-of}

-- MAKERS

-- the entries before a place
abbrev pub passed : List Entry → List Entry → ℕ → List Entry
passed before [] u = before
passed before (e ∷ es) zero = before
passed before (e ∷ es) (suc u) = passed (e ∷ before) es u

passed-before : (p : Entry → Bool) (before es : List Entry) (u : ℕ) → list_any p before ≡ true → list_any p (passed before es u) ≡ true
passed-before p before [] u h = h
passed-before p before (e ∷ es) zero h = h
passed-before p before (e ∷ es) (suc u) h = passed-before p (e ∷ before) es u (by (p e))
  where
    by : (b : Bool) → (b || list_any p before) ≡ true
    by true = refl
    by false = h

passed-any : (p : Entry → Bool) (before es : List Entry) (w u : ℕ) (e : Entry) → slice_get es w ≡ Some e → p e ≡ true → w < u → u < length es → list_any p (passed before es u) ≡ true
passed-any p before [] w u e g h l k = absurd (none-some e g)
passed-any p before (q ∷ es) w zero e g h l k = absurd (omega (arith, l))
passed-any p before (q ∷ es) zero (suc u) e g h l k = passed-before p (q ∷ before) es u (let z : p q ≡ true = ap p (some-same q e g) ∙ h in ap (λ b. b || list_any p before) z)
passed-any p before (q ∷ es) (suc w) (suc u) e g h l k = passed-any p (q ∷ before) es w u e g h (omega (arith, l)) (omega (arith, k))

pub record IsMaker (all before : List Entry) (place : ℕ) (es : List Entry) (n : ℕ) (e : Entry) : Type 0 where
  pub at : ℕ
  pub found : slice_get es at ≡ Some e
  pub makes : makes_object all (passed before es at) e ≡ true
  pub number : ℕ
  pub is : number ≡ place + at
  pub numbered : slice_get (makers_from all before place es) n ≡ Some number

pub maker-of : (all before : List Entry) (place : ℕ) (es : List Entry) (n : ℕ) (e : Entry) → slice_get (makers all before es) n ≡ Some e → IsMaker all before place es n e
maker-of all before place [] n e h = absurd (none-some e h)
maker-of all before place (q ∷ es) n e h = by (makes_object all before q) refl n h (λ i g. maker-of all (q ∷ before) (suc place) es i e g)
  where
    later : (n i : ℕ) → ((x : ℕ) → slice_get (makers_from all (q ∷ before) (suc place) es) i ≡ Some x → slice_get (makers_from all before place (q ∷ es)) n ≡ Some x)
        → IsMaker all (q ∷ before) (suc place) es i e → IsMaker all before place (q ∷ es) n e
    later n i shift k = let z = k.is in record { at = suc k.at; found = k.found; makes = k.makes; number = k.number; is = omega (arith, z); numbered = shift k.number k.numbered }

    unfold_ : (b : Bool) → makes_object all before q ≡ b → makers_from all before place (q ∷ es) ≡ (if b then place ∷ makers_from all (q ∷ before) (suc place) es else makers_from all (q ∷ before) (suc place) es)
    unfold_ b z = ap (λ c. if c then place ∷ makers_from all (q ∷ before) (suc place) es else makers_from all (q ∷ before) (suc place) es) z

    by : (b : Bool) → makes_object all before q ≡ b → (n : ℕ) → slice_get (if b then q ∷ makers all (q ∷ before) es else makers all (q ∷ before) es) n ≡ Some e
        → ((i : ℕ) → slice_get (makers all (q ∷ before) es) i ≡ Some e → IsMaker all (q ∷ before) (suc place) es i e) → IsMaker all before place (q ∷ es) n e
    by true z zero g rec =
        let w = some-same q e g in
        record { at = 0; found = g; makes = ap (makes_object all before) (sym w) ∙ z; number = place; is = omega arith; numbered = ap (λ l. slice_get l 0) (unfold_ true z) }
    by true z (suc n) g rec = later (suc n) n (λ x i. ap (λ l. slice_get l (suc n)) (unfold_ true z) ∙ i) (rec n g)
    by false z n g rec = later n n (λ x i. ap (λ l. slice_get l n) (unfold_ false z) ∙ i) (rec n g)

-- what makes an object has a number
pub maker-there : (all before : List Entry) (place : ℕ) (es : List Entry) (u : ℕ) (e : Entry) → slice_get es u ≡ Some e → makes_object all (passed before es u) e ≡ true → (n : ℕ) × (slice_get (makers all before es) n ≡ Some e)
maker-there all before place [] u e g h = absurd (none-some e g)
maker-there all before place (q ∷ es) zero e g h =
    let w = some-same q e g in
    let z : makes_object all before q ≡ true = ap (makes_object all before) w ∙ h in
    (0, ap (λ b. slice_get (if b then q ∷ makers all (q ∷ before) es else makers all (q ∷ before) es) 0) z ∙ g)
maker-there all before place (q ∷ es) (suc u) e g h = by (makes_object all before q) (maker-there all (q ∷ before) (suc place) es u e g h)
  where
    by : (b : Bool) → (n : ℕ) × (slice_get (makers all (q ∷ before) es) n ≡ Some e) → (n : ℕ) × (slice_get (if b then q ∷ makers all (q ∷ before) es else makers all (q ∷ before) es) n ≡ Some e)
    by true k = (suc k.0, k.1)
    by false k = k

makers-above : (all before : List Entry) (place : ℕ) (es : List Entry) (n x : ℕ) → slice_get (makers_from all before place es) n ≡ Some x → place ≤ x
makers-above all before place [] n x h = absurd (none-some x h)
makers-above all before place (q ∷ es) n x h = by (makes_object all before q) n h (λ i g. makers-above all (q ∷ before) (suc place) es i x g)
  where
    by : (b : Bool) (n : ℕ) → slice_get (if b then place ∷ makers_from all (q ∷ before) (suc place) es else makers_from all (q ∷ before) (suc place) es) n ≡ Some x
        → ((i : ℕ) → slice_get (makers_from all (q ∷ before) (suc place) es) i ≡ Some x → suc place ≤ x) → place ≤ x
    by true zero g rec = let z = some-same place x g in omega (arith, z)
    by true (suc n) g rec = let z = rec n g in omega (arith, z)
    by false n g rec = let z = rec n g in omega (arith, z)

-- later numbers have later places
pub makers-rise : (all before : List Entry) (place : ℕ) (es : List Entry) (n m x y : ℕ) → slice_get (makers_from all before place es) n ≡ Some x → slice_get (makers_from all before place es) m ≡ Some y → n < m → x < y
makers-rise all before place [] n m x y h k l = absurd (none-some x h)
makers-rise all before place (q ∷ es) n m x y h k l = by (makes_object all before q) n m h k l (λ i j a b c. makers-rise all (q ∷ before) (suc place) es i j x y a b c)
  where
    by : (b : Bool) (n m : ℕ) → slice_get (if b then place ∷ makers_from all (q ∷ before) (suc place) es else makers_from all (q ∷ before) (suc place) es) n ≡ Some x
        → slice_get (if b then place ∷ makers_from all (q ∷ before) (suc place) es else makers_from all (q ∷ before) (suc place) es) m ≡ Some y → n < m
        → ((i j : ℕ) → slice_get (makers_from all (q ∷ before) (suc place) es) i ≡ Some x → slice_get (makers_from all (q ∷ before) (suc place) es) j ≡ Some y → i < j → x < y) → x < y
    by true zero zero g k l rec = absurd (omega (arith, l))
    by true zero (suc m) g k l rec = let z = some-same place x g in let w = makers-above all (q ∷ before) (suc place) es m y k in omega (arith, z, w)
    by true (suc n) zero g k l rec = absurd (omega (arith, l))
    by true (suc n) (suc m) g k l rec = rec n m g k (omega (arith, l))
    by false n m g k l rec = rec n m g k l

pub makers-count : (all before : List Entry) (place : ℕ) (es : List Entry) → length (makers_from all before place es) ≡ length (makers all before es)
makers-count all before place [] = refl
makers-count all before place (q ∷ es) = by (makes_object all before q) (makers-count all (q ∷ before) (suc place) es)
  where
    by : (b : Bool) → length (makers_from all (q ∷ before) (suc place) es) ≡ length (makers all (q ∷ before) es)
        → length (if b then place ∷ makers_from all (q ∷ before) (suc place) es else makers_from all (q ∷ before) (suc place) es) ≡ length (if b then q ∷ makers all (q ∷ before) es else makers all (q ∷ before) es)
    by true h = ap suc h
    by false h = h

-- KINDS

data-body : (size : ℕ) (k : SymbolKind) (b : body.Body) → SameKind size k b → is_data k ≡ true → (pieces : List DataPiece) × (b ≡ Data pieces)
data-body size (symbols.Data first) (Data pieces) h d = (pieces, refl)
data-body size (symbols.Data first) (Text def) h d = absurd h
data-body size (symbols.Data first) Declared h d = absurd h
data-body size (symbols.Data first) Used h d = absurd h
data-body size (symbols.Data first) (Common n) h d = absurd h
data-body size symbols.DeclaredOnly b h d = absurd (true≢false (sym d))
data-body size symbols.Used b h d = absurd (true≢false (sym d))
data-body size (symbols.Code item) b h d = absurd (true≢false (sym d))
data-body size symbols.Common b h d = absurd (true≢false (sym d))

common-body : (size : ℕ) (k : SymbolKind) (b : body.Body) → SameKind size k b → is_common k ≡ true → b ≡ Common size
common-body size symbols.Common (Common n) h d = ap Common h
common-body size symbols.Common (Data pieces) h d = absurd h
common-body size symbols.Common (Text def) h d = absurd h
common-body size symbols.Common Declared h d = absurd h
common-body size symbols.Common Used h d = absurd h
common-body size (symbols.Data first) b h d = absurd (true≢false (sym d))
common-body size symbols.DeclaredOnly b h d = absurd (true≢false (sym d))
common-body size symbols.Used b h d = absurd (true≢false (sym d))
common-body size (symbols.Code item) b h d = absurd (true≢false (sym d))

pub body-data : (size : ℕ) (k : SymbolKind) (pieces : List DataPiece) → SameKind size k (Data pieces) → is_data k ≡ true
body-data size (symbols.Data first) pieces h = refl
body-data size symbols.DeclaredOnly pieces h = absurd h
body-data size symbols.Used pieces h = absurd h
body-data size (symbols.Code item) pieces h = absurd h
body-data size symbols.Common pieces h = absurd h

pub body-common : (size : ℕ) (k : SymbolKind) (n : ℕ) → SameKind size k (Common n) → is_common k ≡ true
body-common size symbols.Common n h = refl
body-common size (symbols.Data first) n h = absurd h
body-common size symbols.DeclaredOnly n h = absurd h
body-common size symbols.Used n h = absurd h
body-common size (symbols.Code item) n h = absurd h

-- the built-in module's global symbols are no data
builtin-data : (k : ℕ) (s : abs.Symbol) (pieces : List DataPiece) → slice_get builtin_symbols k ≡ Some s → s.local ≡ false → s.body ≡ Data pieces → ⊥
builtin-data k s pieces e g b = by k e
  where
    local : (q : abs.Symbol) → Some q ≡ Some s → q.local ≡ true → ⊥
    local q h l = true≢false (sym l ∙ (ap (λ y. y.local) (some-same q s h) ∙ g))

    other : (q : abs.Symbol) → Some q ≡ Some s → (q.body ≡ Data pieces → ⊥) → ⊥
    other q h n = n (ap (λ y. y.body) (some-same q s h) ∙ b)

    by : (k : ℕ) → slice_get builtin_symbols k ≡ Some s → ⊥
    by zero h = local _ h refl
    by (suc zero) h = local _ h refl
    by (suc (suc zero)) h = other _ h (λ i. cc)
    by (suc (suc (suc zero))) h = local _ h refl
    by (suc (suc (suc (suc zero)))) h = other _ h (λ i. cc)
    by (suc (suc (suc (suc (suc zero))))) h = other _ h (λ i. cc)
    by (suc (suc (suc (suc (suc (suc zero)))))) h = other _ h (λ i. cc)
    by (suc (suc (suc (suc (suc (suc (suc zero))))))) h = local _ h refl
    by (suc (suc (suc (suc (suc (suc (suc (suc k)))))))) h = none-some s h

module _ (modules : List Source) (outs : List AModule) (tr : AreTranslations modules outs) (join : Join modules) where
  abbrev pub entries : List Entry
  entries = entries_from 0 modules

  same-counts : (i : ℕ) (m : Source) (o : AModule) → slice_get modules i ≡ Some m → slice_get outs i ≡ Some o → length o.symbols ≡ length (symbols.symbols m)
  same-counts i m o e f = (tr.each i m o e f).count

  shape : SameShape modules outs
  shape = shape-of modules outs tr.count same-counts

  pub entry-stands : (t : ℕ) (e : Entry) → slice_get (entries_from 0 modules) t ≡ Some e → (r : Numbered) × Stands modules outs t e r
  entry-stands t e h = stands-entry modules outs tr.count shape same-counts t e h

  -- the entry of a definition
  pub record HasEntry (d : Def) (s : abs.Symbol) : Type 0 where
    pub place : ℕ
    pub entry : Entry
    pub stands : Stands modules outs place entry (record { def = d; symbol = s })

  pub has-entry : (d : Def) (s : abs.Symbol) → symbol_at outs d ≡ Some s → HasEntry d s
  has-entry d s e =
      let f = found-symbol outs d s e in
      let c = tr.count in
      let i = get-within outs d.«module» f.out f.is_out in
      let m = get-some modules d.«module» (omega (arith, i, c)) in
      let l = same-counts d.«module» m.0 f.out m.1 f.is_out in
      let k = get-within f.out.symbols d.symbol s f.is_symbol in
      let a = get-some (symbols.symbols m.0) d.symbol (omega (arith, k, l)) in
      let t = stands-of modules outs tr.count shape same-counts d.«module» d.symbol m.0 f.out a.0 s m.1 f.is_out a.1 f.is_symbol in
      record { place = t.0; entry = record { owner = d.«module»; tags = m.0.tags; symbol = a.0 }; stands = t.1 }

  pub same-symbol : (t : ℕ) (e : Entry) (r : Numbered) → (st : Stands modules outs t e r) → SameSymbol st.source.tags e.symbol r.symbol
  same-symbol t e r st = (tr.each r.def.«module» st.source st.out st.is_source st.is_out).same r.def.symbol e.symbol r.symbol st.in_source st.in_out

  pub stands-linked : (t : ℕ) (e : Entry) (r : Numbered) → Stands modules outs t e r → symbol_at (linked outs) r.def ≡ Some r.symbol
  stands-linked t e r st = linked-module outs r.def r.symbol (symbol-of outs t r st.is_record)

  -- an object of the union, with its record
  pub record IsMade (n : ℕ) (e : Entry) : Type 0 where
    pub place : ℕ
    pub it : Numbered
    pub stands : Stands modules outs place e it
    pub numbered : slice_get (makers_of modules) n ≡ Some place
    pub makes : makes_object (entries_from 0 modules) (passed [] (entries_from 0 modules) place) e ≡ true

  pub made-of : (n : ℕ) (e : Entry) → (let union = union_of modules in slice_get union.objects n ≡ Some e) → IsMade n e
  made-of n e h =
      let k = maker-of (entries_from 0 modules) [] 0 (entries_from 0 modules) n e h in
      let st = entry-stands k.at e k.found in
      let z = k.is in
      let y : k.number ≡ k.at = omega (arith, z) in
      record { place = k.at; it = st.0; stands = st.1; numbered = k.numbered ∙ ap Some y; makes = k.makes }

  -- it is data or common
  pub made-body : (n : ℕ) (e : Entry) → (k : IsMade n e) → ((pieces : List DataPiece) × (k.it.symbol.body ≡ Data pieces)) ⊎ ((is_common e.symbol.kind ≡ true) × (k.it.symbol.body ≡ Common (size_of k.stands.source.tags e.symbol.type)))
  made-body n e k = by (is_data e.symbol.kind) (is_common e.symbol.kind) _ refl refl k.makes
    where
      same : SameSymbol k.stands.source.tags e.symbol k.it.symbol
      same = same-symbol k.place e k.it k.stands

      by : (a b c : Bool) → is_data e.symbol.kind ≡ a → is_common e.symbol.kind ≡ b → (a || (b && c)) ≡ true
          → ((pieces : List DataPiece) × (k.it.symbol.body ≡ Data pieces)) ⊎ ((is_common e.symbol.kind ≡ true) × (k.it.symbol.body ≡ Common (size_of k.stands.source.tags e.symbol.type)))
      by true b c f g h = inl (data-body (size_of k.stands.source.tags e.symbol.type) e.symbol.kind k.it.symbol.body same.kind f)
      by false true c f g h = inr (g, common-body (size_of k.stands.source.tags e.symbol.type) e.symbol.kind k.it.symbol.body same.kind g)
      by false false c f g h = absurd (true≢false (sym h))

  data-full : (b : body.Body) (pieces : List DataPiece) → b ≡ Data pieces → is_full b ≡ true
  data-full b pieces e = ap is_full e

  common-defines : (b : body.Body) (size : ℕ) → b ≡ Common size → is_definition b ≡ true
  common-defines b size e = ap is_definition e

  -- a shared object is what its name stands for
  pub made-chosen : (n : ℕ) (e : Entry) → (k : IsMade n e) → e.symbol.is_local ≡ false → chosen (linked outs) e.symbol.name ≡ Some k.it.def
  made-chosen n e k shared = by (made-body n e k)
    where
      same : SameSymbol k.stands.source.tags e.symbol k.it.symbol
      same = same-symbol k.place e k.it k.stands

      at : symbol_at (linked outs) k.it.def ≡ Some k.it.symbol
      at = stands-linked k.place e k.it k.stands

      global : k.it.symbol.local ≡ false
      global = same.linkage ∙ shared

      none-before : is_common e.symbol.kind ≡ true → is_data e.symbol.kind ≡ false
          → (list_any (is_shared_data e.symbol.name) (entries_from 0 modules) ≡ false) × (list_any (is_shared_common e.symbol.name) (passed [] (entries_from 0 modules) k.place) ≡ false)
      none-before c d = parts (is_data e.symbol.kind) (is_common e.symbol.kind) e.symbol.is_local (list_any (is_shared_data e.symbol.name) (entries_from 0 modules)) (list_any (is_shared_common e.symbol.name) (passed [] (entries_from 0 modules) k.place)) d c shared k.makes
        where
          parts : (a b l x y : Bool) → a ≡ false → b ≡ true → l ≡ false → (a || (b && (l || not (x || y)))) ≡ true → (x ≡ false) × (y ≡ false)
          parts true b l x y p q r h = absurd (true≢false p)
          parts false false l x y p q r h = absurd (true≢false (sym q))
          parts false true true x y p q r h = absurd (true≢false r)
          parts false true false true y p q r h = absurd (true≢false (sym h))
          parts false true false false true p q r h = absurd (true≢false (sym h))
          parts false true false false false p q r h = (refl, refl)

      not-data : (kind : SymbolKind) → is_common kind ≡ true → is_data kind ≡ false
      not-data symbols.Common h = refl
      not-data symbols.DeclaredOnly h = refl
      not-data symbols.Used h = refl
      not-data (symbols.Code item) h = refl
      not-data (symbols.Data first) h = absurd (true≢false (sym h))

      module_ : (size : ℕ) → is_common e.symbol.kind ≡ true → k.it.symbol.body ≡ Common size → chosen (linked outs) e.symbol.name ≡ Some k.it.def
      module_ size c b = go (chosen (linked outs) e.symbol.name) refl
        where
          nothing : (list_any (is_shared_data e.symbol.name) (entries_from 0 modules) ≡ false) × (list_any (is_shared_common e.symbol.name) (passed [] (entries_from 0 modules) k.place) ≡ false)
          nothing = none-before c (not-data e.symbol.kind c)

          here : Defines (linked outs) e.symbol.name k.it.def
          here = defines-of modules outs tr join e.symbol.name k.it.def k.it.symbol at global same.name (common-defines k.it.symbol.body size b)

          -- no data of this name
          no-data : (d : Def) (q : abs.Symbol) (pieces : List DataPiece) → symbol_at (linked outs) d ≡ Some q → q.local ≡ false → q.name ≡ e.symbol.name → q.body ≡ Data pieces → ⊥
          no-data d q pieces eq gq nq bq = by (linked-either outs d q eq)
            where
              in-module : HasEntry d q → ⊥
              in-module w =
                  let sm = same-symbol w.place w.entry (record { def = d; symbol = q }) w.stands in
                  let l : not w.entry.symbol.is_local ≡ true = ap not (sym sm.linkage ∙ gq) in
                  let nm : same_name e.symbol.name w.entry.symbol.name ≡ true = same-of e.symbol.name w.entry.symbol.name (sym nq ∙ sm.name) in
                  let kd : is_data w.entry.symbol.kind ≡ true = body-data (size_of w.stands.source.tags w.entry.symbol.type) w.entry.symbol.kind pieces (subst (SameKind (size_of w.stands.source.tags w.entry.symbol.type) w.entry.symbol.kind) bq sm.kind) in
                  let t : is_shared_data e.symbol.name w.entry ≡ true = rw (l, nm, kd) refl in
                  true≢false (sym (any-at (is_shared_data e.symbol.name) (entries_from 0 modules) w.place w.entry w.stands.is_entry t) ∙ nothing.0)

              by : ((d.«module» < length outs) × (symbol_at outs d ≡ Some q)) ⊎ ((d.«module» ≡ length outs) × (slice_get builtin_symbols d.symbol ≡ Some q)) → ⊥
              by (inl h) = in-module (has-entry d q h.1)
              by (inr h) = builtin-data d.symbol q pieces h.1 gq bq

          -- nor a common one before
          no-before : (d : Def) (q : abs.Symbol) (n : ℕ) → symbol_at (linked outs) d ≡ Some q → q.local ≡ false → q.name ≡ e.symbol.name → q.body ≡ Common n → IsBefore d k.it.def → ⊥
          no-before d q n eq gq nq bq before = by (linked-either outs d q eq)
            where
              in-module : HasEntry d q → ⊥
              in-module w =
                  let sm = same-symbol w.place w.entry (record { def = d; symbol = q }) w.stands in
                  let l : not w.entry.symbol.is_local ≡ true = ap not (sym sm.linkage ∙ gq) in
                  let nm : same_name e.symbol.name w.entry.symbol.name ≡ true = same-of e.symbol.name w.entry.symbol.name (sym nq ∙ sm.name) in
                  let kd : is_common w.entry.symbol.kind ≡ true = body-common (size_of w.stands.source.tags w.entry.symbol.type) w.entry.symbol.kind n (subst (SameKind (size_of w.stands.source.tags w.entry.symbol.type) w.entry.symbol.kind) bq sm.kind) in
                  let t : is_shared_common e.symbol.name w.entry ≡ true = rw (l, nm, kd) refl in
                  let lt : w.place < k.place = place-before outs w.place k.place (record { def = d; symbol = q }) k.it w.stands.is_record k.stands.is_record before in
                  true≢false (sym (passed-any (is_shared_common e.symbol.name) [] (entries_from 0 modules) w.place k.place w.entry w.stands.is_entry t lt (get-within (entries_from 0 modules) k.place e k.stands.is_entry)) ∙ nothing.1)

              late : d.«module» ≡ length outs → IsBefore d k.it.def → ⊥
              late z (inl h) = let i = get-within outs k.it.def.«module» k.stands.out k.stands.is_out in omega (arith, z, h, i)
              late z (inr h) = let i = get-within outs k.it.def.«module» k.stands.out k.stands.is_out in let y = h.0 in omega (arith, z, y, i)

              by : ((d.«module» < length outs) × (symbol_at outs d ≡ Some q)) ⊎ ((d.«module» ≡ length outs) × (slice_get builtin_symbols d.symbol ≡ Some q)) → ⊥
              by (inl h) = in-module (has-entry d q h.1)
              by (inr h) = late h.0 before

          body-is : (d : Def) (q : abs.Symbol) → symbol_at (linked outs) d ≡ Some q → q.local ≡ false → q.name ≡ e.symbol.name → is_definition q.body ≡ true → IsNotAfter d k.it.def ⊎ (is_full q.body ≡ true) → (b : body.Body) → q.body ≡ b → d ≡ k.it.def
          body-is d q eq gq nq dq w (Text def) z = absurd (common-code modules outs tr join k.it.def d k.it.symbol q size def at eq global gq (same.name ∙ sym nq) b z)
          body-is d q eq gq nq dq w (Data pieces) z = absurd (no-data d q pieces eq gq nq z)
          body-is d q eq gq nq dq w Declared z = absurd (true≢false (sym dq ∙ ap is_definition z))
          body-is d q eq gq nq dq w Used z = absurd (true≢false (sym dq ∙ ap is_definition z))
          body-is d q eq gq nq dq (inr f) (Common n) z = absurd (true≢false (sym f ∙ ap is_full z))
          body-is d q eq gq nq dq (inl (inl same_def)) (Common n) z = same_def
          body-is d q eq gq nq dq (inl (inr before)) (Common n) z = absurd (no-before d q n eq gq nq z before)

          which : (d : Def) (h : IsChosen (linked outs) e.symbol.name d) (f : Bool) → is_full h.defines.symbol.body ≡ f → d ≡ k.it.def
          which d h true f = body-is d h.defines.symbol h.defines.occurs.stands h.defines.occurs.global h.defines.occurs.named h.defines.defining (inr f) h.defines.symbol.body refl
          which d h false f = body-is d h.defines.symbol h.defines.occurs.stands h.defines.occurs.global h.defines.occurs.named h.defines.defining (inl (h.common f k.it.def here).1) h.defines.symbol.body refl

          go : (o : Option Def) → chosen (linked outs) e.symbol.name ≡ o → chosen (linked outs) e.symbol.name ≡ Some k.it.def
          go None z = absurd (none_is_undefined (linked outs) e.symbol.name z k.it.def here)
          go (Some d) z = z ∙ ap Some (which d (chosen_is_chosen (linked outs) e.symbol.name d z) (is_full (chosen_is_chosen (linked outs) e.symbol.name d z).defines.symbol.body) refl)

      by : ((pieces : List DataPiece) × (k.it.symbol.body ≡ Data pieces)) ⊎ ((is_common e.symbol.kind ≡ true) × (k.it.symbol.body ≡ Common (size_of k.stands.source.tags e.symbol.type))) → chosen (linked outs) e.symbol.name ≡ Some k.it.def
      by (inl h) = chosen-full modules outs tr join e.symbol.name k.it.def k.it.symbol at global same.name (data-full k.it.symbol.body h.0 h.1)
      by (inr h) = module_ (size_of k.stands.source.tags e.symbol.type) h.0 h.1

  -- so each object is what its symbol stands for
  pub made-stands-for : (n : ℕ) (e : Entry) → (k : IsMade n e) → stands_for (linked outs) k.it.def k.it.symbol ≡ Some k.it.def
  made-stands-for n e k = by k.it.symbol.local refl
    where
      same : SameSymbol k.stands.source.tags e.symbol k.it.symbol
      same = same-symbol k.place e k.it k.stands

      by : (t : Bool) → k.it.symbol.local ≡ t → (if t then Some k.it.def else chosen (linked outs) k.it.symbol.name) ≡ Some k.it.def
      by true z = refl
      by false z = ap (chosen (linked outs)) same.name ∙ made-chosen n e k (sym same.linkage ∙ z)

  pub made-definition : (n : ℕ) (e : Entry) → (k : IsMade n e) → definition_of (linked outs) k.it.def ≡ Some k.it.def
  made-definition n e k = ap (option_and_then (stands_for (linked outs) k.it.def)) (stands-linked k.place e k.it k.stands) ∙ made-stands-for n e k
