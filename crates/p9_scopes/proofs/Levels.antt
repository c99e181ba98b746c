-- The names of one level, the newest first.
use Rattle.std.proofs.Common.{◌≡◌, ◌<◌, ℕ, zero, suc, arith, Bool, true, false, List, [], ◌∷◌, ◌++◌, length, reverse, slice_get, slice_set, Option, Some, None, refl, sym, ap, subst, ◌∙◌}
use Rattle.std.specs.Prelude.{if◌then◌else◌, Vec, bytes_eq}
use Rattle.std.specs.Option.{option_map}
use Rattle.std.proofs.lemmas.List.{reverse-reverse, reverse-append, length-reverse, length-map}
use Rattle.p9_lang.specs.Names.{same_name}
use Rattle.p9_lang.specs.declared.types.CType.{CType}
use Rattle.p9_lang.specs.Types.{type_of}
use Rattle.p9_lang.specs.Scopes.{in_level, tag_in_level}
use Rattle.p9_lang.specs.Declaring.{retyped, declared_before}
use Rattle.p9_scopes.specs.declared.newest.Latest.{Latest}
use Rattle.p9_scopes.specs.declared.declared.Declared.{Declared}
use Rattle.p9_scopes.specs.declared.tag.TagName.{TagName}
use Rattle.p9_scopes.specs.Newest.{latest_in, held, older, Finds}
use Rattle.p9_scopes.specs.Retyping.{Retypes, RetypesIf}
use Rattle.p9_scopes.proofs.Held.{finds_more}
use Rattle.p9_scopes.specs.Seen.{declared_of, level_of, declared_in, names_of, tag_name_of, tag_level_of, tag_in, tag_names_of}
use Rattle.p9_scopes.proofs.Places.{newest_by, before_by, changed_by, at_newest, none_newest, at_before, none_before, nothing_before, at_changed, unchanged, names_stay}

abbrev name_in : Declared → List ℕ
name_in d = d.name

moved : {A B : Type 0} (b : Bool) (f : A → B) (x : A) (o : Option A) (q : Option B) → q ≡ option_map f o
    → (if b then Some (f x) else q) ≡ option_map f (if b then Some x else o)
moved true f x o q e = refl
moved false f x o q e = e

chosen : {A B : Type 0} (b : Bool) (f : A → B) (o p : Option A) (q r : Option B) → q ≡ option_map f o → r ≡ option_map f p
    → (if b then q else r) ≡ option_map f (if b then o else p)
chosen true f o p q r e g = e
chosen false f o p q r e g = g

in_level_by : (x : List ℕ) (ds : List Declared) → in_level x (level_of ds) ≡ declared_in (newest_by name_in x ds)
in_level_by x [] = refl
in_level_by x (d ∷ ds) = moved (same_name x d.name) declared_of d (newest_by name_in x ds) (in_level x (level_of ds)) (in_level_by x ds)

before_is_by : (x : List ℕ) (ds : List Declared) → declared_before x (level_of ds) ≡ declared_in (before_by name_in x ds)
before_is_by x [] = refl
before_is_by x (d ∷ ds) =
    chosen (same_name x d.name) declared_of (newest_by name_in x ds) (before_by name_in x ds) _ _ (in_level_by x ds) (before_is_by x ds)

abbrev with_type : CType → Declared → Declared
with_type t d = record d { ty = t }

retyped_by : (x : List ℕ) (t : CType) (ds : List Declared) → retyped x (type_of t) (level_of ds) ≡ level_of (changed_by name_in (with_type t) x ds)
retyped_by x t [] = refl
retyped_by x t (d ∷ ds) = by (same_name x d.name) (retyped_by x t ds)
  where
    by : (b : Bool) → retyped x (type_of t) (level_of ds) ≡ level_of (changed_by name_in (with_type t) x ds)
        → (if b then declared_of (with_type t d) ∷ level_of ds else declared_of d ∷ retyped x (type_of t) (level_of ds))
        ≡ level_of (if b then with_type t d ∷ ds else d ∷ changed_by name_in (with_type t) x ds)
    by true e = refl
    by false e = ap (λ l. declared_of d ∷ l) e

some_at : {A : Type 0} (xs : List A) (i : ℕ) → i < length xs → (x : A) × (slice_get xs i ≡ Some x)
some_at [] i h = absurd (omega arith)
some_at (x ∷ xs) zero h = (x, refl)
some_at (x ∷ xs) (suc i) h = some_at xs i (omega arith)

-- of a level whose declarations are these, the oldest first
module _ (x : List ℕ) (ds : List Declared) where
  pub newest_found : (l : Latest) → latest_in x (names_of (reverse ds)) ≡ Some l → declared_in (slice_get ds l.at) ≡ in_level x (level_of (reverse ds))
  newest_found l e =
      let r = at_newest name_in x (reverse ds) l e in
      ap (λ o. declared_in (slice_get o l.at)) (sym (reverse-reverse ds)) ∙ ap declared_in r.is ∙ sym (in_level_by x (reverse ds))

  pub none_found : latest_in x (names_of (reverse ds)) ≡ None → in_level x (level_of (reverse ds)) ≡ None
  none_found e = in_level_by x (reverse ds) ∙ ap declared_in (none_newest name_in x (reverse ds) e)

  pub before_found : (l : Latest) (i : ℕ) → latest_in x (names_of (reverse ds)) ≡ Some l → l.before ≡ Some i
      → declared_in (slice_get ds i) ≡ declared_before x (level_of (reverse ds))
  before_found l i e f =
      let r = at_before name_in x (reverse ds) l i e f in
      ap (λ o. declared_in (slice_get o i)) (sym (reverse-reverse ds)) ∙ ap declared_in r.1 ∙ sym (before_is_by x (reverse ds))

  pub none_before_found : (l : Latest) → latest_in x (names_of (reverse ds)) ≡ Some l → l.before ≡ None → declared_before x (level_of (reverse ds)) ≡ None
  none_before_found l e f = before_is_by x (reverse ds) ∙ ap declared_in (none_before name_in x (reverse ds) l e f)

  pub no_name_before : latest_in x (names_of (reverse ds)) ≡ None → declared_before x (level_of (reverse ds)) ≡ None
  no_name_before e = before_is_by x (reverse ds) ∙ ap declared_in (nothing_before name_in x (reverse ds) e)

  pub newest_there : (l : Latest) → latest_in x (names_of (reverse ds)) ≡ Some l → (d : Declared) × (slice_get ds l.at ≡ Some d)
  newest_there l e =
      let r = at_newest name_in x (reverse ds) l e in
      let w = r.within in
      let n = length-reverse ds in
      some_at ds l.at (omega arith)

  changed_at : (l : Latest) (d : Declared) (t : CType) → latest_in x (names_of (reverse ds)) ≡ Some l → slice_get ds l.at ≡ Some d
      → reverse (slice_set ds l.at (with_type t d)) ≡ changed_by name_in (with_type t) x (reverse ds)
  changed_at l d t e f =
      ap (λ y. reverse (slice_set y l.at (with_type t d))) (sym (reverse-reverse ds))
      ∙ ap reverse (sym (at_changed name_in (with_type t) x (reverse ds) l d e (ap (λ y. slice_get y l.at) (reverse-reverse ds) ∙ f)))
      ∙ reverse-reverse (changed_by name_in (with_type t) x (reverse ds))

  pub retyped_at : (l : Latest) (d : Declared) (t : CType) → latest_in x (names_of (reverse ds)) ≡ Some l → slice_get ds l.at ≡ Some d
      → level_of (reverse (slice_set ds l.at (record d { ty = t }))) ≡ retyped x (type_of t) (level_of (reverse ds))
  retyped_at l d t e f = ap level_of (changed_at l d t e f) ∙ sym (retyped_by x t (reverse ds))

  pub retyped_names : (l : Latest) (d : Declared) (t : CType) → latest_in x (names_of (reverse ds)) ≡ Some l → slice_get ds l.at ≡ Some d
      → names_of (reverse (slice_set ds l.at (record d { ty = t }))) ≡ names_of (reverse ds)
  retyped_names l d t e f = ap names_of (changed_at l d t e f) ∙ names_stay name_in (with_type t) (λ d. refl) x (reverse ds)

  pub none_retyped : (t : CType) → latest_in x (names_of (reverse ds)) ≡ None → level_of (reverse ds) ≡ retyped x (type_of t) (level_of (reverse ds))
  none_retyped t e = ap level_of (sym (unchanged name_in (with_type t) x (reverse ds) e)) ∙ sym (retyped_by x t (reverse ds))

-- tags

abbrev tag_name_in : TagName → List ℕ
tag_name_in t = t.name

tag_in_level_by : (x : List ℕ) (ts : List TagName) → tag_in_level x (tag_level_of ts) ≡ tag_in (newest_by tag_name_in x ts)
tag_in_level_by x [] = refl
tag_in_level_by x (t ∷ ts) = moved (same_name x t.name) tag_name_of t (newest_by tag_name_in x ts) (tag_in_level x (tag_level_of ts)) (tag_in_level_by x ts)

module _ (x : List ℕ) (ts : List TagName) where
  pub newest_tag : (l : Latest) → latest_in x (tag_names_of (reverse ts)) ≡ Some l → tag_in (slice_get ts l.at) ≡ tag_in_level x (tag_level_of (reverse ts))
  newest_tag l e =
      let r = at_newest tag_name_in x (reverse ts) l e in
      ap (λ o. tag_in (slice_get o l.at)) (sym (reverse-reverse ts)) ∙ ap tag_in r.is ∙ sym (tag_in_level_by x (reverse ts))

  pub no_tag : latest_in x (tag_names_of (reverse ts)) ≡ None → tag_in_level x (tag_level_of (reverse ts)) ≡ None
  no_tag e = tag_in_level_by x (reverse ts) ∙ ap tag_in (none_newest tag_name_in x (reverse ts) e)

-- one declaration more

pub finds_declared : {Z : Type 0} (es after : List (Vec ℕ Z × Latest)) (ds later : List Declared) (d : Declared) (l : Latest) → Finds es (names_of (reverse ds))
    → later ≡ ds ++ d ∷ [] → l ≡ record { at = length ds; before = older (held es d.name) }
    → ((q : List ℕ) → held after q ≡ (if bytes_eq q d.name then Some l else held es q)) → Finds after (names_of (reverse later))
finds_declared es after ds later d l f e g h =
    subst (λ ns. Finds after ns) (ap names_of (sym (ap reverse e ∙ reverse-append ds (d ∷ []))))
    (finds_more es after (names_of (reverse ds)) d.name l f
    (g ∙ ap (λ n. record { at = n; before = older (held es d.name) }) (sym (length-map (reverse ds) name_in ∙ length-reverse ds))) h)

pub finds_tag : {Z : Type 0} (es after : List (Vec ℕ Z × Latest)) (ds later : List TagName) (d : TagName) (l : Latest) → Finds es (tag_names_of (reverse ds))
    → later ≡ ds ++ d ∷ [] → l ≡ record { at = length ds; before = older (held es d.name) }
    → ((q : List ℕ) → held after q ≡ (if bytes_eq q d.name then Some l else held es q)) → Finds after (tag_names_of (reverse later))
finds_tag es after ds later d l f e g h =
    subst (λ ns. Finds after ns) (ap tag_names_of (sym (ap reverse e ∙ reverse-append ds (d ∷ []))))
    (finds_more es after (tag_names_of (reverse ds)) d.name l f
    (g ∙ ap (λ n. record { at = n; before = older (held es d.name) }) (sym (length-map (reverse ds) tag_name_in ∙ length-reverse ds))) h)

finds_one : {Z : Type 0} (es : List (Vec ℕ Z × Latest)) (x : List ℕ) (ds later : List Declared) (l : Latest) (t : CType) → Finds es (names_of (reverse ds))
    → held es x ≡ Some l → Retypes l.at t ds later → Finds es (names_of (reverse later))
finds_one es x ds later l t f e r =
    let d = newest_there x ds l (sym (f x) ∙ e) in
    subst (λ ns. Finds es ns) (sym (ap (λ y. names_of (reverse y)) (r d.0 d.1) ∙ retyped_names x ds l d.0 t (sym (f x) ∙ e) d.1)) f

one_retyped : {Z : Type 0} (es : List (Vec ℕ Z × Latest)) (x : List ℕ) (ds later : List Declared) (l : Latest) (t : CType) → Finds es (names_of (reverse ds))
    → held es x ≡ Some l → Retypes l.at t ds later → level_of (reverse later) ≡ retyped x (type_of t) (level_of (reverse ds))
one_retyped es x ds later l t f e r =
    let d = newest_there x ds l (sym (f x) ∙ e) in
    ap (λ y. level_of (reverse y)) (r d.0 d.1) ∙ retyped_at x ds l d.0 t (sym (f x) ∙ e) d.1

pub finds_retyped : {Z : Type 0} (es : List (Vec ℕ Z × Latest)) (x : List ℕ) (ds later : List Declared) (place : Option ℕ) (t : CType) → Finds es (names_of (reverse ds))
    → place ≡ older (held es x) → RetypesIf place t ds later → Finds es (names_of (reverse later))
finds_retyped es x ds later place t f e r = by (held es x) refl e
  where
    by : (o : Option Latest) → held es x ≡ o → place ≡ older o → Finds es (names_of (reverse later))
    by None h g = subst (λ ds. Finds es (names_of (reverse ds))) (sym (subst (λ p. RetypesIf p t ds later) g r)) f
    by (Some l) h g = finds_one es x ds later l t f h (subst (λ p. RetypesIf p t ds later) g r)

pub is_retyped : {Z : Type 0} (es : List (Vec ℕ Z × Latest)) (x : List ℕ) (ds later : List Declared) (place : Option ℕ) (t : CType) → Finds es (names_of (reverse ds))
    → place ≡ older (held es x) → RetypesIf place t ds later → level_of (reverse later) ≡ retyped x (type_of t) (level_of (reverse ds))
is_retyped es x ds later place t f e r = by (held es x) refl e
  where
    by : (o : Option Latest) → held es x ≡ o → place ≡ older o → level_of (reverse later) ≡ retyped x (type_of t) (level_of (reverse ds))
    by None h g = ap (λ y. level_of (reverse y)) (subst (λ p. RetypesIf p t ds later) g r) ∙ none_retyped x ds t (sym (f x) ∙ h)
    by (Some l) h g = one_retyped es x ds later l t f h (subst (λ p. RetypesIf p t ds later) g r)
