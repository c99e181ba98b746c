-- The modules of files that fit together join by name.
use Rattle.std.proofs.Common.{◌≡◌, ◌⊎◌, inl, inr, ◌<◌, ◌≤◌, ℕ, zero, suc, Bool, true, false, not, ◌&&◌, ◌||◌, List, [], ◌∷◌, map, length, Some, None, All, refl, sym, ap, ◌∙◌, subst, arith, codes}
use Rattle.std.specs.Prelude.{slice_get}
use Rattle.std.specs.List.{list_any}
use Rattle.p9_abs.specs.declared.modules.AModule.{AModule}
use Rattle.p9_abs.specs.declared.modules.Symbol.{Symbol}
use Rattle.p9_abs.specs.declared.modules.Body.{Body}
use Rattle.p9_abs.specs.declared.modules.Body.TheVariants.{Declared, Used, Text, Data, Common}
use Rattle.p9_abs.specs.Modules.{size_of, is_definition, is_text}
use Rattle.p9_first.specs.Form.{same_name, is_among, IsFile}
use Rattle.p9_first.specs.Modules.{system_names}
use Rattle.p9_form.specs.declared.file.Statement.{Statement}
use Rattle.p9_form.specs.declared.file.First.{First}
use Rattle.p9_form.specs.declared.file.First.TheVariants as first
use Rattle.p9_form.specs.declared.file.Declaration.{Declaration}
use Rattle.p9_form.specs.declared.file.File.{File}
use Rattle.p9_form.specs.Items.{items_of}
use Rattle.p9_abs.specs.declared.modules.Def.{Def}
use Rattle.p9_names.specs.declared.rules.Rule.{Rule}
use Rattle.p9_names.specs.declared.rules.Rule.TheVariants.{Once, Agreement}
use Rattle.p9_abs.specs.Names.{Occurs, Defines, IsNotAfter, body_names, module_names}
use Rattle.p9_names.specs.Linking.{Conflicts, IsKept, HasMain, AllResolved, is_use}
use Rattle.p9_names.specs.Rules.{clash, is_empty, is_main, main_name, signatures_differ, sizes_differ, differ}
use Rattle.p9_abs.specs.BuiltIn.{linked}
use Rattle.p9_names.specs.Answers.{Joins}
use Rattle.p9_share.specs.Symbols.{module_of, symbols_of, signature_of, body_of, variable_symbol, main_symbol, used_names}
use Rattle.p9_share.proofs.Names.{same_bytes, same_is}
use Rattle.p9_share.proofs.Valid.{same_self}
use Rattle.p9_share.proofs.Within.{Within, get_below}
use Rattle.p9_share.proofs.Joined.{place_of, module_at, occurs_there, variable_there, main_there}
use Rattle.p9_agree.proofs.Fit.{AreAlike, HasDefinition, Fit, true_false, false_true}
use Rattle.p9_agree.proofs.FromNames.{no_function, clash_is, definition_is}
use Rattle.p9_agree.proofs.Sources.{not_call, call_not_main, not_main}
use Rattle.p9_agree.proofs.Named.{call_signature, Named, NamedSystem, NamedVariable, NamedMain, named_of, BuiltIn, IsLocal, UsesMain, HasCall, built_in_of, call_at, Owner, OfFile, OfSuite, owner_of, built_in_there}

abbrev AreFiles : List File → Type 0
AreFiles files = All (λ f. IsFile (items_of f)) files

-- Symbols that go together

record Goes (a b : Symbol) : Type 0 where
  once : clash a.body b.body ≡ false
  agree : differ a b ≡ false

abbrev name_of : Symbol → List ℕ
name_of s = s.name

signature_self : (x : List ℕ) → signatures_differ x x ≡ false
signature_self x = ap (λ b. not (is_empty x) && (not (is_empty x) && not b)) (same_bytes x x ∙ same_self x) ∙ by (is_empty x)
  where
    by : (e : Bool) → (not e && (not e && false)) ≡ false
    by true = refl
    by false = refl

-- a use of a system call goes with what has its name
calls_go : (a b : Symbol) → a.name ≡ b.name → a.sig ≡ call_signature a.name → b.sig ≡ call_signature b.name → a.body ≡ Used → Goes a b
calls_go a b n s t u =
    let e : b.sig ≡ a.sig = t ∙ sym (ap call_signature n) ∙ sym s in
    record {
      once = ap (λ y. clash y b.body) u;
      agree =
          ap (λ x. signatures_differ a.sig x || sizes_differ (size_of a.body) (size_of b.body)) e
          ∙ ap (λ c. c || sizes_differ (size_of a.body) (size_of b.body)) (signature_self a.sig)
          ∙ ap (λ y. sizes_differ (size_of y) (size_of b.body)) u;
    }

sizes_same : (f g : First) (u v : Bool) → sizes_differ (size_of (body_of f u)) (size_of (body_of g v)) ≡ false
sizes_same first.Extern g true v = refl
sizes_same first.Extern g false v = refl
sizes_same first.Zero first.Extern u true = refl
sizes_same first.Zero first.Extern u false = refl
sizes_same first.Zero first.Zero u v = refl
sizes_same first.Zero (first.Number value) u v = refl
sizes_same (first.Number value) first.Extern u true = refl
sizes_same (first.Number value) first.Extern u false = refl
sizes_same (first.Number value) first.Zero u v = refl
sizes_same (first.Number value) (first.Number other) u v = refl

variables_go : (names others : List (List ℕ)) (d e : Declaration) → AreAlike d e → Goes (variable_symbol names d) (variable_symbol others e)
variables_go names others d e h = record {
  once = clash_is d.first e.first (is_among names d.name) (is_among others e.name) ∙ h.once;
  agree =
      ap (λ l. signatures_differ (signature_of l) (signature_of e.is_long) || sizes_differ (size_of (variable_symbol names d).body) (size_of (variable_symbol others e).body)) h.length
      ∙ ap (λ c. c || sizes_differ (size_of (variable_symbol names d).body) (size_of (variable_symbol others e).body)) (signature_self (signature_of e.is_long))
      ∙ sizes_same d.first e.first (is_among names d.name) (is_among others e.name);
}

files_go : (files : List File) (i j : ℕ) (f g : File) (a b : Symbol) → AreFiles files → Fit files → i < j → slice_get files i ≡ Some f → slice_get files j ≡ Some g
    → Named f a → Named g b → a.name ≡ b.name → Goes a b
files_go files i j f g a b h k l p q (NamedSystem s t u) (NamedSystem s' t' u') n = calls_go a b n t t' u
files_go files i j f g a b h k l p q (NamedSystem s t u) (NamedVariable d w o) n = absurd (not_call a.name d.name s (no_function files j g d h q w) (n ∙ ap name_of o))
files_go files i j f g a b h k l p q (NamedSystem s t u) (NamedMain ts m o) n = absurd (call_not_main a.name s (n ∙ ap name_of o))
files_go files i j f g a b h k l p q (NamedVariable d w o) (NamedSystem s t u) n = absurd (not_call b.name d.name s (no_function files i f d h p w) (sym n ∙ ap name_of o))
files_go files i j f g a b h k l p q (NamedVariable d w o) (NamedVariable e v o') n =
    subst (λ x. Goes x b) (sym o)
    (subst (λ y. Goes (variable_symbol (used_names f) d) y) (sym o')
    (variables_go (used_names f) (used_names g) d e (k.alike i j f g d e l p q w v (sym (ap name_of o') ∙ sym n ∙ ap name_of o))))
files_go files i j f g a b h k l p q (NamedVariable d w o) (NamedMain ts m o') n = absurd (not_main d.name (no_function files i f d h p w) (sym (ap name_of o) ∙ n ∙ ap name_of o'))
files_go files i j f g a b h k l p q (NamedMain ss m o) (NamedSystem s t u) n = absurd (call_not_main b.name s (sym n ∙ ap name_of o))
files_go files i j f g a b h k l p q (NamedMain ss m o) (NamedVariable d w o') n = absurd (not_main d.name (no_function files j g d h q w) (sym (ap name_of o') ∙ sym n ∙ ap name_of o))
files_go files i j f g a b h k l p q (NamedMain ss m o) (NamedMain ts m' o') n = absurd (k.one_main i j f g ss ts l p q m m')

suite_goes : (files : List File) (i : ℕ) (f : File) (a b : Symbol) → AreFiles files → slice_get files i ≡ Some f → Named f a → BuiltIn b → b.local ≡ false → a.name ≡ b.name → Goes a b
suite_goes files i f a b h p v (IsLocal t) l n = absurd (true_false (sym t ∙ l))
suite_goes files i f a b h p (NamedSystem s t u) (UsesMain g) l n = absurd (call_not_main a.name s (n ∙ ap name_of g))
suite_goes files i f a b h p (NamedSystem s t u) (HasCall s' t' r) l n = calls_go a b n t t' u
suite_goes files i f a b h p (NamedVariable d w o) (UsesMain g) l n = absurd (not_main d.name (no_function files i f d h p w) (sym (ap name_of o) ∙ n ∙ ap name_of g))
suite_goes files i f a b h p (NamedVariable d w o) (HasCall s t r) l n = absurd (not_call b.name d.name s (no_function files i f d h p w) (sym n ∙ ap name_of o))
suite_goes files i f a b h p (NamedMain ss m o) (UsesMain g) l n =
    subst (λ x. Goes x b) (sym o) (subst (λ y. Goes main_symbol y) (sym g) (record { once = refl; agree = refl }))
suite_goes files i f a b h p (NamedMain ss m o) (HasCall s t r) l n = absurd (call_not_main b.name s (sym n ∙ ap name_of o))

all_go : (files : List File) (i j k m : ℕ) (a b : Symbol) → AreFiles files → Fit files → i < j → Owner files i k a → Owner files j m b → b.local ≡ false → a.name ≡ b.name → Goes a b
all_go files i j k m a b h fit l (OfFile f p w) (OfFile g q v) t n = files_go files i j f g a b h fit l p q (named_of f a (k, w)) (named_of g b (m, v)) n
all_go files i j k m a b h fit l (OfFile f p w) (OfSuite e v) t n = suite_goes files i f a b h p (named_of f a (k, w)) (built_in_of m b v) t n
all_go files i j k m a b h fit l (OfSuite e w) (OfFile g q v) t n = absurd (let c = get_below files j g q in omega (arith, l, e, c))
all_go files i j k m a b h fit l (OfSuite e w) (OfSuite e' v) t n = absurd (omega (arith, l, e, e'))

conflict_goes : (files : List File) (rule : Rule) (name : List ℕ) (d e : Def) → AreFiles files → Fit files → (c : Conflicts rule (linked (map module_of files)) name d e) → Goes c.early c.late
conflict_goes files rule name d e h fit c =
    all_go files d.«module» e.«module» d.symbol e.symbol c.early c.late h fit c.ordered (owner_of files d c.early c.early_occurs.stands) (owner_of files e c.late c.late_occurs.stands)
    c.late_occurs.global (c.early_occurs.named ∙ sym c.late_occurs.named)

kept_once : (files : List File) → AreFiles files → Fit files → IsKept Once (linked (map module_of files))
kept_once files h fit name d e c = true_false (sym c.broken ∙ (conflict_goes files Once name d e h fit c).once)

kept_agreement : (files : List File) → AreFiles files → Fit files → IsKept Agreement (linked (map module_of files))
kept_agreement files h fit name d e c = true_false (sym c.broken ∙ (conflict_goes files Agreement name d e h fit c).agree)

-- `main`

abbrev defines_main : Symbol → Bool
defines_main s = is_definition s.body && same_name s.name (codes "main")

-- the first that passes
record FirstAt {X : Type 0} (p : X → Bool) (xs : List X) : Type 0 where
  number : ℕ
  element : X
  there : slice_get xs number ≡ Some element
  passes : p element ≡ true
  least : (m : ℕ) (z : X) → slice_get xs m ≡ Some z → p z ≡ true → number ≤ m

some_is : {X : Type 0} {x y : X} → Some x ≡ Some y → x ≡ y
some_is h = cc

none_not : {X : Type 0} {x : X} → None ≡ Some x → ⊥
none_not h = cc

first_at : {X : Type 0} (p : X → Bool) (xs : List X) (k : ℕ) (x : X) → slice_get xs k ≡ Some x → p x ≡ true → FirstAt p xs
first_at p [] zero x e h = absurd (none_not e)
first_at p [] (suc k) x e h = absurd (none_not e)
first_at {X} p (y ∷ xs) k x e h = by (p y) refl k e (λ m g. first_at p xs m x g h)
  where
    later : p y ≡ false → FirstAt p xs → FirstAt p (y ∷ xs)
    later n r = record {
      number = suc r.number;
      element = r.element;
      there = r.there;
      passes = r.passes;
      least = least;
    }
      where
        least : (m : ℕ) (z : X) → slice_get (y ∷ xs) m ≡ Some z → p z ≡ true → suc r.number ≤ m
        least zero z g t = absurd (true_false (sym t ∙ ap p (sym (some_is g)) ∙ n))
        least (suc m) z g t = let l = r.least m z g t in omega (arith, l)

    by : (b : Bool) → p y ≡ b → (k : ℕ) → slice_get (y ∷ xs) k ≡ Some x → ((m : ℕ) → slice_get xs m ≡ Some x → FirstAt p xs) → FirstAt p (y ∷ xs)
    by true t k g again = record { number = 0; element = y; there = refl; passes = t; least = λ m z i j. omega arith }
    by false t zero g again = absurd (true_false (sym h ∙ ap p (sym (some_is g)) ∙ t))
    by false t (suc m) g again = later t (again m g)

both_left : (a b : Bool) → (a && b) ≡ true → a ≡ true
both_left true b h = refl
both_left false b h = cc

both_right : (a b : Bool) → (a && b) ≡ true → b ≡ true
both_right true b h = h
both_right false b h = cc

and_true : (a b : Bool) → a ≡ true → b ≡ true → (a && b) ≡ true
and_true true b h g = g
and_true false b h g = absurd (false_true h)

used_defines : (s : Symbol) → s.body ≡ Used → is_definition s.body ≡ true → ⊥
used_defines s u d = false_true (sym (ap is_definition u) ∙ d)

-- a definition of `main` in a file is that of its `main`
main_is : (files : List File) (i : ℕ) (f : File) (s : Symbol) → AreFiles files → slice_get files i ≡ Some f → Named f s → is_definition s.body ≡ true → s.name ≡ codes "main"
    → (ss : List Statement) × (f.main ≡ Some ss) × (s ≡ main_symbol)
main_is files i f s h p (NamedSystem c t u) d n = absurd (used_defines s u d)
main_is files i f s h p (NamedVariable c w o) d n = absurd (not_main c.name (no_function files i f c h p w) (sym (ap name_of o) ∙ n))
main_is files i f s h p (NamedMain ss m o) d n = (ss, m, o)

-- of two places the one isn't later
le_or_lt : (a b : ℕ) → (a ≤ b) ⊎ (b < a)
le_or_lt zero b = inl (omega arith)
le_or_lt (suc a) zero = inr (omega arith)
le_or_lt (suc a) (suc b) = up (le_or_lt a b)
  where
    up : (a ≤ b) ⊎ (b < a) → (suc a ≤ suc b) ⊎ (suc b < suc a)
    up (inl h) = inl (omega (arith, h))
    up (inr h) = inr (omega (arith, h))

same_place : (i j : ℕ) → (i < j → ⊥) → (j < i → ⊥) → j ≡ i
same_place i j p q = by (le_or_lt i j) (le_or_lt j i)
  where
    by : (i ≤ j) ⊎ (j < i) → (j ≤ i) ⊎ (i < j) → j ≡ i
    by (inr l) o = absurd (q l)
    by (inl l) (inr m) = absurd (p m)
    by (inl l) (inl m) = omega (arith, l, m)

not_after : (i k : ℕ) (e : Def) → e.«module» ≡ i → k ≤ e.symbol → IsNotAfter (place_of i k) e
not_after i k e m l = by (le_or_lt e.symbol k)
  where
    by : (e.symbol ≤ k) ⊎ (k < e.symbol) → IsNotAfter (place_of i k) e
    by (inl g) = let s : k ≡ e.symbol = omega (arith, l, g) in inl (λ t. record { «module» = sym m t; symbol = s t })
    by (inr g) = inr (inr (sym m, g))

main_first : (files : List File) (k : ℕ) (e : Def) → AreFiles files → (fit : Fit files)
    → ((m : ℕ) (z : Symbol) → slice_get (symbols_of fit.main.file) m ≡ Some z → defines_main z ≡ true → k ≤ m)
    → Defines (linked (map module_of files)) main_name e → IsNotAfter (place_of fit.main.place k) e
main_first files k e h fit least d = by (owner_of files e d.symbol d.occurs.stands)
  where
    passes : defines_main d.symbol ≡ true
    passes = and_true (is_definition d.symbol.body) (same_name d.symbol.name (codes "main")) d.defining (ap (λ x. same_name x (codes "main")) d.occurs.named)

    of_built_in : BuiltIn d.symbol → IsNotAfter (place_of fit.main.place k) e
    of_built_in (IsLocal t) = absurd (true_false (sym t ∙ d.occurs.global))
    of_built_in (UsesMain g) = absurd (used_defines d.symbol (ap (λ (s : Symbol). s.body) g) d.defining)
    of_built_in (HasCall s t r) = absurd (call_not_main d.symbol.name s d.occurs.named)

    by : Owner files e.«module» e.symbol d.symbol → IsNotAfter (place_of fit.main.place k) e
    by (OfSuite g v) = of_built_in (built_in_of e.symbol d.symbol v)
    by (OfFile f p w) =
        let r = main_is files e.«module» f d.symbol h p (named_of f d.symbol (e.symbol, w)) d.defining d.occurs.named in
        let m : e.«module» ≡ fit.main.place = same_place fit.main.place e.«module»
        (λ l. fit.one_main fit.main.place e.«module» fit.main.file f fit.main.statements r.0 l fit.main.there p fit.main.has r.1)
        (λ l. fit.one_main e.«module» fit.main.place f fit.main.file r.0 fit.main.statements l p fit.main.there r.1 fit.main.has) in
        let g : f ≡ fit.main.file = some_is (sym p ∙ ap (slice_get files) m ∙ fit.main.there) in
        not_after fit.main.place k e m (least e.symbol d.symbol (subst (λ x. slice_get (symbols_of x) e.symbol ≡ Some d.symbol) g w) passes)

has_main : (files : List File) → AreFiles files → Fit files → HasMain (linked (map module_of files))
has_main files h fit =
    let i = fit.main.place in
    let f = fit.main.file in
    let w = main_there f fit.main.statements fit.main.has in
    let r = first_at defines_main (symbols_of f) w.0 main_symbol w.1 refl in
    let d = both_left (is_definition r.element.body) (same_name r.element.name (codes "main")) r.passes in
    let n : r.element.name ≡ codes "main" = same_is r.element.name (codes "main") (both_right (is_definition r.element.body) (same_name r.element.name (codes "main")) r.passes) in
    let m = main_is files i f r.element h fit.main.there (named_of f r.element (r.number, r.there)) d n in
    let o : Occurs (linked (map module_of files)) r.element.name (place_of i r.number) r.element =
    occurs_there files i r.number f r.element fit.main.there r.there (ap (λ (s : Symbol). s.local) m.2) in
    record {
      place = place_of i r.number;
      first = record {
        defines = record {
          symbol = r.element;
          occurs = subst (λ x. Occurs (linked (map module_of files)) x (place_of i r.number) r.element) n o;
          defining = d;
        };
        first = λ e c. main_first files r.number e h fit r.least c;
      };
      fits = ap is_main m.2;
    }

-- Uses

none_passes : {X : Type 0} (p : X → Bool) (xs : List X) → ((x : X) → Within xs x → p x ≡ false) → list_any p xs ≡ false
none_passes p [] h = refl
none_passes p (x ∷ xs) h = ap (λ b. b || list_any p xs) (h x (0, refl)) ∙ none_passes p xs (λ y w. h y (suc w.0, w.1))

first_names : (k : ℕ) (f : First) (used : Bool) → body_names k (body_of f used) ≡ false
first_names k first.Extern true = refl
first_names k first.Extern false = refl
first_names k first.Zero used = refl
first_names k (first.Number value) used = refl

-- no code and no data of a file's module names a symbol
symbol_names : (f : File) (k : ℕ) (s : Symbol) → Named f s → body_names k s.body ≡ false
symbol_names f k s (NamedSystem c t u) = ap (body_names k) u
symbol_names f k s (NamedVariable d w o) = ap (λ (t : Symbol). body_names k t.body) o ∙ first_names k d.first (is_among (used_names f) d.name)
symbol_names f k s (NamedMain ss m o) = ap (λ (t : Symbol). body_names k t.body) o

file_names : (f : File) (k : ℕ) → module_names (symbols_of f) k ≡ false
file_names f k = none_passes (λ s. body_names k s.body) (symbols_of f) (λ s w. symbol_names f k s (named_of f s w))

-- a variable's symbol that is a use is that of an `extern` one that is named
use_is : (symbols : List Symbol) (k : ℕ) (f : First) (used : Bool) → module_names symbols k ≡ false → is_use symbols k (body_of f used) ≡ true → (f ≡ first.Extern) × (used ≡ true)
use_is symbols k first.Extern true n h = (refl, refl)
use_is symbols k first.Extern false n h = absurd (true_false (sym h ∙ n))
use_is symbols k first.Zero used n h = absurd (false_true h)
use_is symbols k (first.Number value) used n h = absurd (false_true h)

text_is_no_use : (symbols : List Symbol) (k : ℕ) (b : Body) → is_text b ≡ true → is_use symbols k b ≡ true → ⊥
text_is_no_use symbols k Declared t h = false_true t
text_is_no_use symbols k Used t h = false_true t
text_is_no_use symbols k (Text def) t h = false_true h
text_is_no_use symbols k (Data pieces) t h = false_true h
text_is_no_use symbols k (Common size) t h = false_true h

text_defines : (b : Body) → is_text b ≡ true → is_definition b ≡ true
text_defines Declared t = absurd (false_true t)
text_defines Used t = absurd (false_true t)
text_defines (Text def) t = refl
text_defines (Data pieces) t = refl
text_defines (Common size) t = refl

abbrev IsDefined : List File → List ℕ → Type 0
IsDefined files x = (e : Def) × Defines (linked (map module_of files)) x e

call_defined : (files : List File) (x : List ℕ) → Within system_names x → IsDefined files x
call_defined files x w =
    let c = call_at x w in (
      place_of (length files) c.number,
      record {
        symbol = c.symbol;
        occurs = record { stands = built_in_there files c.number c.symbol c.there; global = c.global; named = c.named };
        defining = text_defines c.symbol.body c.text;
      },
    )

variable_defined : (files : List File) (x : List ℕ) → HasDefinition files x → IsDefined files x
variable_defined files x d =
    let w = variable_there d.file d.declaration d.declared in (
      place_of d.place w.0,
      record {
        symbol = variable_symbol (used_names d.file) d.declaration;
        occurs = subst (λ y. Occurs (linked (map module_of files)) y (place_of d.place w.0) (variable_symbol (used_names d.file) d.declaration)) d.named
            (occurs_there files d.place w.0 d.file (variable_symbol (used_names d.file) d.declaration) d.there w.1 refl);
        defining = definition_is d.declaration.first (is_among (used_names d.file) d.declaration.name) ∙ d.defining;
      },
    )

main_defined : (files : List File) → Fit files → IsDefined files (codes "main")
main_defined files fit =
    let w = main_there fit.main.file fit.main.statements fit.main.has in (
      place_of fit.main.place w.0,
      record {
        symbol = main_symbol;
        occurs = occurs_there files fit.main.place w.0 fit.main.file main_symbol fit.main.there w.1 refl;
        defining = refl;
      },
    )

module_is : (files : List File) (i : ℕ) (f : File) (user : AModule) → slice_get files i ≡ Some f → slice_get (linked (map module_of files)) i ≡ Some user → user.symbols ≡ symbols_of f
module_is files i f user p n = ap (λ (m : AModule). m.symbols) (some_is (sym n ∙ module_at files i f p))

symbol_resolved : (files : List File) (i k : ℕ) (s : Symbol) (symbols : List Symbol) → AreFiles files → Fit files → ((f : File) → slice_get files i ≡ Some f → symbols ≡ symbols_of f)
    → Owner files i k s → s.local ≡ false → is_use symbols k s.body ≡ true → IsDefined files s.name
symbol_resolved files i k s symbols h fit m (OfSuite e v) g u = by (built_in_of k s v)
  where
    by : BuiltIn s → IsDefined files s.name
    by (IsLocal t) = absurd (true_false (sym t ∙ g))
    by (UsesMain o) = subst (IsDefined files) (sym (ap name_of o)) (main_defined files fit)
    by (HasCall c t r) = absurd (text_is_no_use symbols k s.body r u)
symbol_resolved files i k s symbols h fit m (OfFile f p w) g u = by (named_of f s (k, w))
  where
    by : Named f s → IsDefined files s.name
    by (NamedSystem c t b) = call_defined files s.name c
    by (NamedVariable d v o) =
        let r = use_is symbols k d.first (is_among (used_names f) d.name) (ap (λ l. module_names l k) (m f p) ∙ file_names f k) (sym (ap (λ (t : Symbol). is_use symbols k t.body) o) ∙ u) in
        subst (IsDefined files) (sym (ap name_of o)) (variable_defined files d.name (fit.resolved i f d p v r.0 r.1))
    by (NamedMain ss n o) = absurd (false_true (sym (ap (λ (t : Symbol). is_use symbols k t.body) o) ∙ u))

all_resolved : (files : List File) → AreFiles files → Fit files → AllResolved (linked (map module_of files))
all_resolved files h fit name d u =
    subst (IsDefined files) u.occurs.named
    (symbol_resolved files d.«module» d.symbol u.symbol u.user.symbols h fit (λ f p. module_is files d.«module» f u.user p u.number)
    (owner_of files d u.symbol u.occurs.stands) u.occurs.global u.used)

-- All together

pub fit_to_names : (files : List File) → All (λ f. IsFile (items_of f)) files → Fit files → Joins (linked (map module_of files))
fit_to_names files h fit = record {
  once = kept_once files h fit;
  main = has_main files h fit;
  resolved = all_resolved files h fit;
  agree = kept_agreement files h fit;
}
