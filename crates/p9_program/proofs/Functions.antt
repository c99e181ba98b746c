-- The functions of the union, and the texts that stand where they are defined.
use Rattle.std.proofs.Common.{◌≡◌, ◌⊎◌, inl, inr, ℕ, zero, suc, ◌+◌, ◌==◌, Bool, true, false, if◌then◌else◌, Option, Some, None, List, [], ◌∷◌, length, slice_get, refl, sym, ap, ◌∙◌, subst, arith}
use Rattle.std.specs.Prelude.{flat_map, IsSome}
use Rattle.std.proofs.lemmas.Bool.{true≢false, and_parts}
use Rattle.std.proofs.lemmas.Bool.Decides.{nat_tests}
use Rattle.p9_abs.specs.declared.instructions.TextDef.{TextDef}
use Rattle.p9_abs.specs.declared.modules.Body as body
use Rattle.p9_abs.specs.declared.modules.Body.TheVariants.{Declared, Used, Text, Data, Common}
use Rattle.p9_abs.specs.declared.modules.AModule.{AModule}
use Rattle.p9_abs.specs.Programs.{Numbered}
use Rattle.p9_lang.specs.Names.{same_name}
use Rattle.p9_lang.specs.Layout.{size_of}
use Rattle.p9_lang.specs.Modules.{Source, Typed}
use Rattle.p9_lang.specs.Symbols as symbols
use Rattle.p9_lang.specs.Symbols.{Symbol, SymbolKind}
use Rattle.p9_cmean.specs.Cells.{FunctionName, Global, Local}
use Rattle.p9_cmean.specs.Access.{same_function}
use Rattle.p9_cmean.specs.Declarations.{Definition, definition_of}
use Rattle.p9_cmean.specs.Joins.{Join}
use Rattle.p9_cmean.specs.Union.{Entry, entries_from, FunctionEntry, name_of, function_entry, functions_in, is_function, found_function, is_local_function, union_of, need_of}
use Rattle.p9_sim.specs.Translating.{SameKind}
use Rattle.p9_program.specs.Linking.{AreTranslations}
use Rattle.p9_program.proofs.Lists.{some-same, none-some, get-first, get-second, get-either, any-at, any-found, same-is, same-self}
use Rattle.p9_program.proofs.Positions.{Stands}
use Rattle.p9_program.proofs.Objects.{entry-stands, same-symbol}

-- NAMES

equal : (a b : ℕ) → (a == b) ≡ true → a ≡ b
equal a b h = grind (arith, nat_tests)

equal-self : (a : ℕ) → (a == a) ≡ true
equal-self a = grind (arith, nat_tests)

pub function-is : (f g : FunctionName) → same_function f g ≡ true → f ≡ g
function-is (Global x) (Global y) h = ap Global (same-is x y h)
function-is (Global x) (Local o y) h = absurd (true≢false (sym h))
function-is (Local o x) (Global y) h = absurd (true≢false (sym h))
function-is (Local o x) (Local i y) h =
    let q = and_parts (o == i) (same_name x y) h in ap (λ k. Local k x) (equal o i q.0) ∙ ap (Local i) (same-is x y q.1)

function-self : (f : FunctionName) → same_function f f ≡ true
function-self (Global x) = same-self x
function-self (Local o x) = let a = equal-self o in let b = same-self x in rw (a, b) refl

-- KINDS

pub text-code : (size : ℕ) (k : SymbolKind) (def : TextDef) → SameKind size k (Text def) → (item : Typed) × (k ≡ symbols.Code item) × IsSome (definition_of item)
text-code size (symbols.Code item) def h = (item, refl, h)
text-code size symbols.DeclaredOnly def h = absurd h
text-code size symbols.Used def h = absurd h
text-code size (symbols.Data first) def h = absurd h
text-code size symbols.Common def h = absurd h

code-text : (size : ℕ) (item : Typed) (b : body.Body) → SameKind size (symbols.Code item) b → (def : TextDef) × (b ≡ Text def)
code-text size item (Text def) h = (def, refl)
code-text size item Declared h = absurd h
code-text size item Used h = absurd h
code-text size item (Data pieces) h = absurd h
code-text size item (Common n) h = absurd h

-- FLATTENED LISTS

pub flat-back : {A B : Type 0} (f : A → List B) (xs : List A) (i : ℕ) (y : B) → slice_get (flat_map f xs) i ≡ Some y → (t : ℕ) × (x : A) × (slice_get xs t ≡ Some x) × ((j : ℕ) × (slice_get (f x) j ≡ Some y))
flat-back f [] i y e = absurd (none-some y e)
flat-back f (x ∷ xs) i y e = by (get-either (f x) (flat_map f xs) i y e) (λ u g. flat-back f xs u y g)
  where
    by : (slice_get (f x) i ≡ Some y) ⊎ ((u : ℕ) × (i ≡ length (f x) + u) × (slice_get (flat_map f xs) u ≡ Some y))
        → ((u : ℕ) → slice_get (flat_map f xs) u ≡ Some y → (t : ℕ) × (z : _) × (slice_get xs t ≡ Some z) × ((j : ℕ) × (slice_get (f z) j ≡ Some y)))
        → (t : ℕ) × (z : _) × (slice_get (x ∷ xs) t ≡ Some z) × ((j : ℕ) × (slice_get (f z) j ≡ Some y))
    by (inl g) rec = (0, x, refl, (i, g))
    by (inr g) rec = let r = rec g.0 g.2 in (suc r.0, r.1, r.2, r.3)

flat-there : {A B : Type 0} (f : A → List B) (xs : List A) (t j : ℕ) (x : A) (y : B) → slice_get xs t ≡ Some x → slice_get (f x) j ≡ Some y → (i : ℕ) × (slice_get (flat_map f xs) i ≡ Some y)
flat-there f [] t j x y e g = absurd (none-some x e)
flat-there f (z ∷ xs) zero j x y e g = (j, get-first (f z) (flat_map f xs) j y (ap (λ k. slice_get (f k) j) (some-same z x e) ∙ g))
flat-there f (z ∷ xs) (suc t) j x y e g = let r = flat-there f xs t j x y e g in (length (f z) + r.0, get-second (f z) (flat_map f xs) r.0 y r.1)

-- FUNCTIONS

pub record IsFunctionOf (e : Entry) (fe : FunctionEntry) : Type 0 where
  pub item : Typed
  pub kind : e.symbol.kind ≡ symbols.Code item
  pub definition : Definition
  pub defined : definition_of item ≡ Some definition
  pub function : fe.function ≡ name_of e
  pub same : fe.definition ≡ definition

pub in-entry : (e : Entry) (j : ℕ) (fe : FunctionEntry) → slice_get (functions_in e) j ≡ Some fe → IsFunctionOf e fe
in-entry e j fe h = by e.symbol.kind refl h
  where
    with_definition : (item : Typed) → e.symbol.kind ≡ symbols.Code item → (d : Option Definition) → definition_of item ≡ d → (j : ℕ) → slice_get (function_entry e item d) j ≡ Some fe → IsFunctionOf e fe
    with_definition item k None z j h = absurd (none-some fe h)
    with_definition item k (Some d) z zero h = record { item = item; kind = k; definition = d; defined = z; function = ap (λ i. i.function) (sym (some-same _ fe h)); same = ap (λ i. i.definition) (sym (some-same _ fe h)) }
    with_definition item k (Some d) z (suc j) h = absurd (none-some fe h)

    by : (k : SymbolKind) → e.symbol.kind ≡ k → slice_get (functions_in (record e { symbol = record e.symbol { kind = k } })) j ≡ Some fe → IsFunctionOf e fe
    by (symbols.Code item) z h = with_definition item z (definition_of item) refl j h
    by symbols.DeclaredOnly z h = absurd (none-some fe h)
    by symbols.Used z h = absurd (none-some fe h)
    by (symbols.Data first) z h = absurd (none-some fe h)
    by symbols.Common z h = absurd (none-some fe h)

entry-in : (e : Entry) (item : Typed) → e.symbol.kind ≡ symbols.Code item → (d : Option Definition) → definition_of item ≡ d → IsSome d → (fe : FunctionEntry) × (slice_get (functions_in e) 0 ≡ Some fe) × (fe.function ≡ name_of e)
entry-in e item k None z h = absurd (true≢false (sym h))
entry-in e item k (Some d) z h =
    let fe : FunctionEntry = record { function = name_of e; owner = e.owner; tags = e.tags; definition = d; need = need_of e.tags item d } in
    (fe, ap (λ q. slice_get (functions_in (record e { symbol = record e.symbol { kind = q } })) 0) k ∙ ap (λ q. slice_get (function_entry e item q) 0) z, refl)

pub found-back : (f : FunctionName) (fs : List FunctionEntry) (fe : FunctionEntry) → found_function f fs ≡ Some fe → (i : ℕ) × (slice_get fs i ≡ Some fe) × (f ≡ fe.function)
found-back f [] fe e = absurd (none-some fe e)
found-back f (q ∷ fs) fe e = by (is_function f q) refl e (λ g. found-back f fs fe g)
  where
    by : (b : Bool) → is_function f q ≡ b → (if b then Some q else found_function f fs) ≡ Some fe → (found_function f fs ≡ Some fe → (i : ℕ) × (slice_get fs i ≡ Some fe) × (f ≡ fe.function))
        → (i : ℕ) × (slice_get (q ∷ fs) i ≡ Some fe) × (f ≡ fe.function)
    by true t g rec = let z = some-same q fe g in (0, g, function-is f q.function t ∙ ap (λ i. i.function) z)
    by false t g rec = let r = rec g in (suc r.0, r.1, r.2)

pub name-local : (e : Entry) → e.symbol.is_local ≡ true → name_of e ≡ Local e.owner e.symbol.name
name-local e h = ap (λ b. if b then Local e.owner e.symbol.name else Global e.symbol.name) h

pub name-global : (e : Entry) → e.symbol.is_local ≡ false → name_of e ≡ Global e.symbol.name
name-global e h = ap (λ b. if b then Local e.owner e.symbol.name else Global e.symbol.name) h

pub local-name : (e : Entry) (owner : ℕ) (name : List ℕ) → name_of e ≡ Local owner name → (e.symbol.is_local ≡ true) × (e.owner ≡ owner) × (e.symbol.name ≡ name)
local-name e owner name h = by e.symbol.is_local refl h
  where
    by : (b : Bool) → e.symbol.is_local ≡ b → (if b then Local e.owner e.symbol.name else Global e.symbol.name) ≡ Local owner name → (e.symbol.is_local ≡ true) × (e.owner ≡ owner) × (e.symbol.name ≡ name)
    by true z g = (z, cc, cc)
    by false z g = absurd (let y : Global e.symbol.name ≡ Local owner name = g in cc)

pub global-name : (e : Entry) (name : List ℕ) → name_of e ≡ Global name → (e.symbol.is_local ≡ false) × (e.symbol.name ≡ name)
global-name e name h = by e.symbol.is_local refl h
  where
    by : (b : Bool) → e.symbol.is_local ≡ b → (if b then Local e.owner e.symbol.name else Global e.symbol.name) ≡ Global name → (e.symbol.is_local ≡ false) × (e.symbol.name ≡ name)
    by false z g = (z, cc)
    by true z g = absurd (let y : Local e.owner e.symbol.name ≡ Global name = g in cc)

module _ (modules : List Source) (outs : List AModule) (tr : AreTranslations modules outs) (join : Join modules) where
  -- the text of a function of the union
  pub record IsText (f : FunctionName) : Type 0 where
    pub place : ℕ
    pub entry : Entry
    pub it : Numbered
    pub stands : Stands modules outs place entry it
    pub def : TextDef
    pub text : it.symbol.body ≡ Text def
    pub name : name_of entry ≡ f

  text-of : (f : FunctionName) (i : ℕ) (fe : FunctionEntry) → (let union = union_of modules in slice_get union.functions i ≡ Some fe) → f ≡ fe.function → IsText f
  text-of f i fe h n = by (flat-back functions_in (entries_from 0 modules) i fe h)
    where
      by : (t : ℕ) × (e : Entry) × (slice_get (entries_from 0 modules) t ≡ Some e) × ((j : ℕ) × (slice_get (functions_in e) j ≡ Some fe)) → IsText f
      by q =
          let k = in-entry q.1 q.3.0 fe q.3.1 in
          let st = entry-stands modules outs tr join q.0 q.1 q.2 in
          let same = same-symbol modules outs tr join q.0 q.1 st.0 st.1 in
          let t = code-text (size_of st.1.source.tags q.1.symbol.type) k.item st.0.symbol.body (subst (λ z. SameKind (size_of st.1.source.tags q.1.symbol.type) z st.0.symbol.body) k.kind same.kind) in
          record { place = q.0; entry = q.1; it = st.0; stands = st.1; def = t.0; text = t.1; name = sym k.function ∙ sym n }

  pub found-text : (f : FunctionName) (fe : FunctionEntry) → (let union = union_of modules in found_function f union.functions ≡ Some fe) → IsText f
  found-text f fe h = let r = found-back f (flat_map functions_in (entries_from 0 modules)) fe h in text-of f r.0 fe r.1 r.2

  -- a local function of the union
  pub local-text : (owner : ℕ) (name : List ℕ) → is_local_function (union_of modules) owner name ≡ true → IsText (Local owner name)
  local-text owner name h = let r = any-found (is_function (Local owner name)) (flat_map functions_in (entries_from 0 modules)) h in text-of (Local owner name) r.0 r.1 r.2 (function-is (Local owner name) r.1.function r.3)

  pub is-local : (t : ℕ) (e : Entry) (r : Numbered) (def : TextDef) → Stands modules outs t e r → r.symbol.body ≡ Text def → e.symbol.is_local ≡ true → is_local_function (union_of modules) e.owner e.symbol.name ≡ true
  is-local t e r def st b l =
      let same = same-symbol modules outs tr join t e r st in
      let k = text-code (size_of st.source.tags e.symbol.type) e.symbol.kind def (subst (SameKind (size_of st.source.tags e.symbol.type) e.symbol.kind) b same.kind) in
      let fe = entry-in e k.0 k.1 (definition_of k.0) refl k.2 in
      let i = flat-there functions_in (entries_from 0 modules) t 0 e fe.0 st.is_entry fe.1 in
      let n : same_function (Local e.owner e.symbol.name) fe.0.function ≡ true = subst (λ z. same_function (Local e.owner e.symbol.name) z ≡ true) (sym (fe.2 ∙ name-local e l)) (function-self (Local e.owner e.symbol.name)) in
      any-at (is_function (Local e.owner e.symbol.name)) (flat_map functions_in (entries_from 0 modules)) i.0 fe.0 i.1 n
