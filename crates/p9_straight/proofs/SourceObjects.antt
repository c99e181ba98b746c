-- The objects of all files together: which object a variable's name and a text stand for, and what it holds at first.
use Rattle.std.proofs.Common.{◌≡◌, ◌≢◌, ◌≤◌, ℕ, Bool, true, false, not, ◌&&◌, ◌||◌, if◌then◌else◌, List, [], ◌∷◌, replicate, Some, None, Option, refl, sym, ap, ◌∙◌, subst, arith}
use Rattle.std.specs.Prelude.{◌==◌, slice_get}
use Rattle.std.specs.List.{list_any}
use Rattle.p9_first.specs.Form.{same_name, is_letter, is_name, is_variable_name}
use Rattle.p9_first.specs.Modules.{Source, SymbolKind, DeclaredOnly, Used, Code, Data, TextData, Common, Symbol}
use Rattle.p9_form.specs.Sharing.{Initial}
use Rattle.p9_first.specs.Cells.{Global, Into, Byte, Object, Cell, Local}
use Rattle.p9_first.specs.Access.{number_cells}
use Rattle.p9_first.specs.Union.{Entry, entries, is_shared_data, is_shared_common, makes_object, makers, object_makers, first_objects, number_from, is_local_of, is_shared_of, has_local, object_pointer, function_named, is_text_of, text_pointer, start_of}
use Rattle.p9_first.proofs.Variables.{Holds}
use Rattle.p9_first.proofs.FormCalls.{text_object}
use Rattle.p9_first.proofs.FormObjects.{FoundAt, number_found, object_of, object_at}
use Rattle.p9_straight.specs.FormRun.{initial_of}
use Rattle.p9_straight.proofs.SourceLists.{both_left, both_right, not_true, true_not, neither, neither_left, or_true, first_true, or_cases, bool_cases, eq_of, same_is, Each, each_weaker, each_at, any_weaker, none_passes, number_some}
use Rattle.p9_straight.proofs.SourceEntries.{Dotted, SoundKind, Sound}
use Rattle.p9_straight.proofs.SourceUnion.{no_value}

-- Symbols that make objects

makers_each : (Q : Entry → Type 0) (all before next : List Entry) → Each Q next → Each (λ e. Q e × ((b : List Entry) × (makes_object all b e ≡ true))) (makers all before next)
makers_each Q all before [] h = tt
makers_each Q all before (e ∷ next) h =
    bool_cases (makes_object all before e)
    (λ m. subst (λ b. Each (λ e. Q e × ((b : List Entry) × (makes_object all b e ≡ true))) (if b then e ∷ makers all (e ∷ before) next else makers all (e ∷ before) next)) (sym m)
    ((h.0, (before, m)), makers_each Q all (e ∷ before) next h.1))
    (λ m. subst (λ b. Each (λ e. Q e × ((b : List Entry) × (makes_object all b e ≡ true))) (if b then e ∷ makers all (e ∷ before) next else makers all (e ∷ before) next)) (sym m)
    (makers_each Q all (e ∷ before) next h.1))

-- the others are made all the same
kept : (p : Entry → Bool) (b : Bool) (e : Entry) (es : List Entry) → list_any p es ≡ true → list_any p (if b then e ∷ es else es) ≡ true
kept p true e es h = or_true (p e) (list_any p es) h
kept p false e es h = h

made_first : (p : Entry → Bool) (b : Bool) (e : Entry) (es : List Entry) → b ≡ true → p e ≡ true → list_any p (if b then e ∷ es else es) ≡ true
made_first p b e es h g = ap (λ c. list_any p (if c then e ∷ es else es)) h ∙ first_true (p e) (list_any p es) g

made : (p : Entry → Bool) (all : List Entry) → ((e : Entry) (b : List Entry) → p e ≡ true → makes_object all b e ≡ true) → (before next : List Entry) → list_any p next ≡ true → list_any p (makers all before next) ≡ true
made p all f before [] h = h
made p all f before (e ∷ next) h =
    or_cases (p e) (list_any p next) h
    (λ g. made_first p (makes_object all before e) e (makers all (e ∷ before) next) (f e before g) g)
    (λ g. kept p (makes_object all before e) e (makers all (e ∷ before) next) (made p all f (e ∷ before) next g))

-- what makes an object, by kinds

never : {X : Type 0} (a b : Bool) → (a && (b && false)) ≡ true → X
never a b h = absurd (no a b h)
  where
    no : (a b : Bool) → (a && (b && false)) ≡ true → ⊥
    no true true h = let e : false ≡ true = h in cc
    no true false h = let e : false ≡ true = h in cc
    no false b h = let e : false ≡ true = h in cc

never_text : {X : Type 0} (a : Bool) → (a && false) ≡ true → X
never_text a h = absurd (no a h)
  where
    no : (a : Bool) → (a && false) ≡ true → ⊥
    no true h = let e : false ≡ true = h in cc
    no false h = let e : false ≡ true = h in cc

abbrev of_kind : Entry → SymbolKind → Entry
of_kind e k = record { owner = e.owner; symbol = record { name = e.symbol.name; is_local = e.symbol.is_local; type = e.symbol.type; kind = k } }

data_makes : (x : List ℕ) (all b : List Entry) (e : Entry) (k : SymbolKind) → is_shared_data x (of_kind e k) ≡ true → makes_object all b (of_kind e k) ≡ true
data_makes x all b e DeclaredOnly h = never (not e.symbol.is_local) (same_name x e.symbol.name) h
data_makes x all b e Used h = never (not e.symbol.is_local) (same_name x e.symbol.name) h
data_makes x all b e (Code item) h = never (not e.symbol.is_local) (same_name x e.symbol.name) h
data_makes x all b e (Data value) h = refl
data_makes x all b e (TextData k bytes) h = never (not e.symbol.is_local) (same_name x e.symbol.name) h
data_makes x all b e Common h = never (not e.symbol.is_local) (same_name x e.symbol.name) h

text_makes : (owner n : ℕ) (all b : List Entry) (e : Entry) (k : SymbolKind) → is_text_of owner n (of_kind e k) ≡ true → makes_object all b (of_kind e k) ≡ true
text_makes owner n all b e DeclaredOnly h = never_text (e.owner == owner) h
text_makes owner n all b e Used h = never_text (e.owner == owner) h
text_makes owner n all b e (Code item) h = never_text (e.owner == owner) h
text_makes owner n all b e (Data value) h = never_text (e.owner == owner) h
text_makes owner n all b e (TextData k bytes) h = refl
text_makes owner n all b e Common h = never_text (e.owner == owner) h

common_makes : (x : List ℕ) (all b : List Entry) (e : Entry) (k : SymbolKind) → list_any (is_shared_data x) all ≡ false → list_any (is_shared_common x) b ≡ false
    → is_shared_common x (of_kind e k) ≡ true → makes_object all b (of_kind e k) ≡ true
common_makes x all b e DeclaredOnly d c h = never (not e.symbol.is_local) (same_name x e.symbol.name) h
common_makes x all b e Used d c h = never (not e.symbol.is_local) (same_name x e.symbol.name) h
common_makes x all b e (Code item) d c h = never (not e.symbol.is_local) (same_name x e.symbol.name) h
common_makes x all b e (Data value) d c h = never (not e.symbol.is_local) (same_name x e.symbol.name) h
common_makes x all b e (TextData k bytes) d c h = never (not e.symbol.is_local) (same_name x e.symbol.name) h
common_makes x all b e Common d c h =
    let n : x ≡ e.symbol.name = same_is x e.symbol.name (both_left (same_name x e.symbol.name) true (both_right (not e.symbol.is_local) (same_name x e.symbol.name && true) h)) in
    subst (λ y. (e.symbol.is_local || not (list_any (is_shared_data y) all || list_any (is_shared_common y) b)) ≡ true) n
    (or_true e.symbol.is_local (not (list_any (is_shared_data x) all || list_any (is_shared_common x) b)) (ap not (neither (list_any (is_shared_data x) all) (list_any (is_shared_common x) b) d c)))

common_made : (x : List ℕ) (all : List Entry) → list_any (is_shared_data x) all ≡ false → (before next : List Entry) → list_any (is_shared_common x) before ≡ false → list_any (is_shared_common x) next ≡ true
    → list_any (is_shared_common x) (makers all before next) ≡ true
common_made x all d before [] c h = h
common_made x all d before (e ∷ next) c h =
    bool_cases (is_shared_common x e)
    (λ g. made_first (is_shared_common x) (makes_object all before e) e (makers all (e ∷ before) next) (common_makes x all before e e.symbol.kind d c g) g)
    (λ g. kept (is_shared_common x) (makes_object all before e) e (makers all (e ∷ before) next)
    (common_made x all d (e ∷ before) next (neither (is_shared_common x e) (list_any (is_shared_common x) before) g c) (ap (λ b. b || list_any (is_shared_common x) next) (sym g) ∙ h)))

-- data of a name are the name's
both : (a b : Bool) → a ≡ true → b ≡ true → (a && b) ≡ true
both true b h g = g
both false b h g = h

shared_data : (x : List ℕ) (e : Entry) → is_shared_data x e ≡ true → is_shared_of x e ≡ true
shared_data x e h = both (not e.symbol.is_local) (same_name x e.symbol.name) (both_left (not e.symbol.is_local) _ h) (both_left (same_name x e.symbol.name) _ (both_right (not e.symbol.is_local) _ h))

shared_common : (x : List ℕ) (e : Entry) → is_shared_common x e ≡ true → is_shared_of x e ≡ true
shared_common x e h = both (not e.symbol.is_local) (same_name x e.symbol.name) (both_left (not e.symbol.is_local) _ h) (both_left (same_name x e.symbol.name) _ (both_right (not e.symbol.is_local) _ h))

-- Names that begin with a letter

abbrev pub dotless : List ℕ → Bool
dotless [] = true
dotless (b ∷ bs) = not (b == 46)

dot_is_no_letter : is_letter 46 ≡ false
dot_is_no_letter = refl

letter_first : (x : List ℕ) → is_name x ≡ true → dotless x ≡ true
letter_first [] h = refl
letter_first (b ∷ bs) h =
    bool_cases (b == 46)
    (λ e. true_not (is_letter b) (both_left (is_letter b) _ h) (subst (λ c. is_letter c ≡ false) (sym (eq_of b 46 e)) dot_is_no_letter))
    (λ e. ap not e)

pub variable_dotless : (x : List ℕ) → is_variable_name x ≡ true → dotless x ≡ true
variable_dotless x h = letter_first x (both_left (is_name x) _ h)

not_dotted : (x name : List ℕ) → dotless x ≡ true → Dotted name → same_name x name ≡ false
not_dotted x name h d = subst (λ n. same_name x n ≡ false) (sym d.1) (by x h)
  where
    by : (x : List ℕ) → dotless x ≡ true → same_name x (46 ∷ d.0) ≡ false
    by [] h = refl
    by (b ∷ bs) h = ap (λ c. c && same_name bs d.0) (not_true (b == 46) h)

-- no symbol is local to a module but those of texts, which begin with a dot
sound_dotted : (P : Initial → Type 0) (texts : List (List ℕ)) (s : Symbol) (k : SymbolKind) → SoundKind P texts s k → s.is_local ≡ true → Dotted s.name
sound_dotted P texts s DeclaredOnly h l = true_not s.is_local l h
sound_dotted P texts s Used h l = true_not s.is_local l h
sound_dotted P texts s (Code item) h l = true_not s.is_local l h
sound_dotted P texts s (Data value) h l = true_not s.is_local l h.0
sound_dotted P texts s (TextData k bytes) h l = h.2
sound_dotted P texts s Common h l = true_not s.is_local l h.0

not_local : (P : Initial → Type 0) (texts : List (List ℕ)) (owner : ℕ) (x : List ℕ) (e : Entry) → dotless x ≡ true → Sound P texts e.symbol → is_local_of owner x e ≡ false
not_local P texts owner x e d h =
    bool_cases e.symbol.is_local
    (λ l. fails e.symbol.is_local (e.owner == owner) (same_name x e.symbol.name) (not_dotted x e.symbol.name d (sound_dotted P texts e.symbol e.symbol.kind h l)))
    (λ l. ap (λ b. b && ((e.owner == owner) && same_name x e.symbol.name)) l)
  where
    fails : (a b c : Bool) → c ≡ false → (a && (b && c)) ≡ false
    fails true true c h = h
    fails true false c h = refl
    fails false b c h = refl

text_is_local : (P : Initial → Type 0) (texts : List (List ℕ)) (owner n : ℕ) (e : Entry) (k : SymbolKind) → is_text_of owner n (of_kind e k) ≡ true → SoundKind P texts (of_kind e k).symbol k → e.symbol.is_local ≡ true
text_is_local P texts owner n e DeclaredOnly h s = never_text (e.owner == owner) h
text_is_local P texts owner n e Used h s = never_text (e.owner == owner) h
text_is_local P texts owner n e (Code item) h s = never_text (e.owner == owner) h
text_is_local P texts owner n e (Data value) h s = never_text (e.owner == owner) h
text_is_local P texts owner n e (TextData k bytes) h s = s.0
text_is_local P texts owner n e Common h s = never_text (e.owner == owner) h

some_is : {X : Type 0} {x y : X} → Some x ≡ Some y → x ≡ y
some_is h = cc

text_shown : (P : Initial → Type 0) (texts : List (List ℕ)) (owner n : ℕ) (b : List ℕ) (e : Entry) (k : SymbolKind) → is_text_of owner n (of_kind e k) ≡ true → SoundKind P texts (of_kind e k).symbol k
    → slice_get texts n ≡ Some b → object_of (of_kind e k) ≡ text_object b
text_shown P texts owner n b e DeclaredOnly h s g = never_text (e.owner == owner) h
text_shown P texts owner n b e Used h s g = never_text (e.owner == owner) h
text_shown P texts owner n b e (Code item) h s g = never_text (e.owner == owner) h
text_shown P texts owner n b e (Data value) h s g = never_text (e.owner == owner) h
text_shown P texts owner n b e (TextData k bytes) h s g =
    let same : k ≡ n = eq_of k n (both_right (e.owner == owner) (k == n) h) in
    ap text_object (some_is (sym s.1 ∙ ap (slice_get texts) same ∙ g))
text_shown P texts owner n b e Common h s g = never_text (e.owner == owner) h

-- The objects

abbrev pub number_or : Option ℕ → ℕ
number_or None = 0
number_or (Some n) = n

abbrev pub number_of : List Source → List ℕ → ℕ
number_of modules x = number_or (number_from 0 (is_shared_of x) (object_makers modules))

abbrev pub static_of : List Source → (owner : ℕ) → ℕ → ℕ
static_of modules owner k = number_or (number_from 0 (is_text_of owner k) (object_makers modules))

abbrev pub IsFirst : List Initial → Initial → Type 0
IsFirst vs v = (initial_of vs v.name ≡ v.value) × (v.value ≤ 2147483647)

abbrev pub is_given : List ℕ → Initial → Bool
is_given x v = same_name x v.name

number_is : {X : Type 0} (p : X → Bool) (xs : List X) → list_any p xs ≡ true → number_from 0 p xs ≡ Some (number_or (number_from 0 p xs))
number_is p xs h = let r = number_some 0 p xs h in r.1 ∙ ap Some (sym (ap number_or r.1))

found_at : {X : Type 0} (p : X → Bool) (xs : List X) → list_any p xs ≡ true → FoundAt 0 p xs (number_or (number_from 0 p xs))
found_at p xs h = number_found 0 p xs (number_or (number_from 0 p xs)) (number_is p xs h)

module _ (modules : List Source) (vs : List Initial) (tentative texts : List (List ℕ))
    (sound : Each (λ e. Sound (IsFirst vs) texts e.symbol) (entries modules))
    (data_there : (x : List ℕ) → list_any (is_given x) vs ≡ true → list_any (is_shared_data x) (entries modules) ≡ true)
    (common_there : (x : List ℕ) → list_any (same_name x) tentative ≡ true → list_any (is_shared_common x) (entries modules) ≡ true) where
  abbrev IsMade : Entry → Type 0
  IsMade e = Sound (IsFirst vs) texts e.symbol × ((b : List Entry) × (makes_object (entries modules) b e ≡ true))

  all_made : Each IsMade (object_makers modules)
  all_made = makers_each (λ e. Sound (IsFirst vs) texts e.symbol) (entries modules) [] (entries modules) sound

  data_object : (x : List ℕ) → list_any (is_shared_data x) (entries modules) ≡ true → list_any (is_shared_of x) (object_makers modules) ≡ true
  data_object x h =
      any_weaker (is_shared_data x) (is_shared_of x) (shared_data x) (object_makers modules)
      (made (is_shared_data x) (entries modules) (λ e b g. data_makes x (entries modules) b e e.symbol.kind g) [] (entries modules) h)

  common_object : (x : List ℕ) → list_any (is_shared_common x) (entries modules) ≡ true → list_any (is_shared_of x) (object_makers modules) ≡ true
  common_object x h =
      bool_cases (list_any (is_shared_data x) (entries modules))
      (λ d. data_object x d)
      (λ d. any_weaker (is_shared_common x) (is_shared_of x) (shared_common x) (object_makers modules)
      (common_made x (entries modules) d [] (entries modules) refl h))

  -- every variable has an object
  variable_object : (x : List ℕ) → (list_any (is_given x) vs || list_any (same_name x) tentative) ≡ true → list_any (is_shared_of x) (object_makers modules) ≡ true
  variable_object x h =
      or_cases (list_any (is_given x) vs) (list_any (same_name x) tentative) h
      (λ g. data_object x (data_there x g))
      (λ g. common_object x (common_there x g))

  -- the object holds the variable's first value
  first_of_common : (x : List ℕ) (b : List Entry) (l : Bool) → l ≡ false → (l || not (list_any (is_shared_data x) (entries modules) || list_any (is_shared_common x) b)) ≡ true → initial_of vs x ≡ 0
  first_of_common x b l e h =
      no_value vs x
      (bool_cases (list_any (is_given x) vs)
      (λ g. true_not (list_any (is_shared_data x) (entries modules)) (data_there x g)
      (neither_left (list_any (is_shared_data x) (entries modules)) (list_any (is_shared_common x) b)
      (not_true (list_any (is_shared_data x) (entries modules) || list_any (is_shared_common x) b)
      (ap (λ c. c || not (list_any (is_shared_data x) (entries modules) || list_any (is_shared_common x) b)) (sym e) ∙ h))))
      (λ g. g))

  holds_first : (x : List ℕ) (e : Entry) (k : SymbolKind) → is_shared_of x (of_kind e k) ≡ true → SoundKind (IsFirst vs) texts (of_kind e k).symbol k
      → ((b : List Entry) × (makes_object (entries modules) b (of_kind e k) ≡ true)) → Holds (object_of (of_kind e k)) (initial_of vs x)
  holds_first x e DeclaredOnly h s m = absurd (let d : false ≡ true = m.1 in cc)
  holds_first x e Used h s m = absurd (let d : false ≡ true = m.1 in cc)
  holds_first x e (Code item) h s m = absurd (let d : false ≡ true = m.1 in cc)
  holds_first x e (Data value) h s m =
      let n : x ≡ e.symbol.name = same_is x e.symbol.name (both_right (not e.symbol.is_local) (same_name x e.symbol.name) h) in
      let v : initial_of vs x ≡ s.1.0.value = ap (initial_of vs) (n ∙ sym s.1.1) ∙ s.1.3.0 in
      let w = s.1.3.1 in
      record { alive = refl; cells = s.1.2 ∙ ap (number_cells 4) (sym v); word = omega (arith, v, w) }
  holds_first x e (TextData k bytes) h s m =
      true_not e.symbol.is_local s.0 (not_true e.symbol.is_local (both_left (not e.symbol.is_local) (same_name x e.symbol.name) h))
  holds_first x e Common h s m =
      let n : x ≡ e.symbol.name = same_is x e.symbol.name (both_right (not e.symbol.is_local) (same_name x e.symbol.name) h) in
      let z : initial_of vs x ≡ 0 = first_of_common x m.0 e.symbol.is_local s.0
      (subst (λ y. (e.symbol.is_local || not (list_any (is_shared_data y) (entries modules) || list_any (is_shared_common y) m.0)) ≡ true) (sym n) m.1) in
      record { alive = refl; cells = ap (λ i. replicate {A = Cell} i (Byte 0)) s.1 ∙ ap (number_cells 4) (sym z); word = omega (arith, z) }

  abbrev IsDefined : List ℕ → Type 0
  IsDefined x = (list_any (is_given x) vs || list_any (same_name x) tentative) ≡ true

  place_is : {X : Type 0} (p : X → Bool) (xs : List X) (n : ℕ) → (f : FoundAt 0 p xs n) → f.place ≡ n
  place_is p xs n f = let e = f.counted in omega (arith, e)

  pub first_holder : (x : List ℕ) → IsDefined x → (object : Object) × (slice_get (first_objects modules) (number_of modules x) ≡ Some object) × Holds object (initial_of vs x)
  first_holder x h =
      let f = found_at (is_shared_of x) (object_makers modules) (variable_object x h) in
      let i = each_at IsMade (object_makers modules) f.place f.item all_made f.there in (
        object_of f.item,
        subst (λ n. slice_get (first_objects modules) n ≡ Some (object_of f.item)) (place_is (is_shared_of x) (object_makers modules) (number_of modules x) f) (object_at modules f.place f.item f.there),
        holds_first x f.item f.item.symbol.kind f.passed i.0 i.1,
      )

  pub has_no_local : (owner : ℕ) (x : List ℕ) → dotless x ≡ true → has_local modules owner x ≡ false
  has_no_local owner x d = none_passes (is_local_of owner x) (entries modules) (each_weaker (λ e. Sound (IsFirst vs) texts e.symbol) (λ e. is_local_of owner x e ≡ false) (λ e s. not_local (IsFirst vs) texts owner x e d s) (entries modules) sound)

  pub variable_pointer : (owner : ℕ) (x : List ℕ) → IsDefined x → dotless x ≡ true → object_pointer modules owner x ≡ Into (number_of modules x) 0
  variable_pointer owner x h d =
      ap (λ b. start_of (if b then number_from 0 (is_local_of owner x) (object_makers modules) else number_from 0 (is_shared_of x) (object_makers modules))) (has_no_local owner x d)
      ∙ ap start_of (number_is (is_shared_of x) (object_makers modules) (variable_object x h))

  pub function_is : (owner : ℕ) (x : List ℕ) → dotless x ≡ true → function_named modules owner x ≡ Global x
  function_is owner x d = ap (λ b. if b then Local owner x else Global x) (has_no_local owner x d)

  same_item : {X : Type 0} (p q : X → Bool) (xs : List X) (m n : ℕ) → (f : FoundAt 0 p xs m) (g : FoundAt 0 q xs n) → m ≡ n → f.item ≡ g.item
  same_item p q xs m n f g e =
      let a : f.place ≡ g.place = place_is p xs m f ∙ e ∙ sym (place_is q xs n g) in
      some_is (sym f.there ∙ ap (slice_get xs) a ∙ g.there)

  pub variables_apart : (x y : List ℕ) → IsDefined x → IsDefined y → number_of modules x ≡ number_of modules y → x ≡ y
  variables_apart x y h g e =
      let f = found_at (is_shared_of x) (object_makers modules) (variable_object x h) in
      let k = found_at (is_shared_of y) (object_makers modules) (variable_object y g) in
      same_is x f.item.symbol.name (both_right (not f.item.symbol.is_local) (same_name x f.item.symbol.name) f.passed)
      ∙ ap (λ i. i.symbol.name) (same_item (is_shared_of x) (is_shared_of y) (object_makers modules) (number_of modules x) (number_of modules y) f k e)
      ∙ sym (same_is y k.item.symbol.name (both_right (not k.item.symbol.is_local) (same_name y k.item.symbol.name) k.passed))

  -- texts

  text_there : (owner n : ℕ) → list_any (is_text_of owner n) (entries modules) ≡ true → list_any (is_text_of owner n) (object_makers modules) ≡ true
  text_there owner n h = made (is_text_of owner n) (entries modules) (λ e b g. text_makes owner n (entries modules) b e e.symbol.kind g) [] (entries modules) h

  pub text_at : (owner n : ℕ) → list_any (is_text_of owner n) (entries modules) ≡ true → text_pointer modules owner n ≡ Into (static_of modules owner n) 0
  text_at owner n h = ap start_of (number_is (is_text_of owner n) (object_makers modules) (text_there owner n h))

  pub first_text : (owner n : ℕ) (b : List ℕ) → list_any (is_text_of owner n) (entries modules) ≡ true → slice_get texts n ≡ Some b → slice_get (first_objects modules) (static_of modules owner n) ≡ Some (text_object b)
  first_text owner n b h g =
      let f = found_at (is_text_of owner n) (object_makers modules) (text_there owner n h) in
      let i = each_at IsMade (object_makers modules) f.place f.item all_made f.there in
      subst (λ m. slice_get (first_objects modules) m ≡ Some (object_of f.item)) (place_is (is_text_of owner n) (object_makers modules) (static_of modules owner n) f) (object_at modules f.place f.item f.there)
      ∙ ap Some (text_shown (IsFirst vs) texts owner n b f.item f.item.symbol.kind f.passed i.0 g)

  pub text_apart : (owner n : ℕ) (x : List ℕ) → list_any (is_text_of owner n) (entries modules) ≡ true → IsDefined x → static_of modules owner n ≢ number_of modules x
  text_apart owner n x h d e =
      let f = found_at (is_text_of owner n) (object_makers modules) (text_there owner n h) in
      let k = found_at (is_shared_of x) (object_makers modules) (variable_object x d) in
      let i = each_at IsMade (object_makers modules) f.place f.item all_made f.there in
      let s = same_item (is_text_of owner n) (is_shared_of x) (object_makers modules) (static_of modules owner n) (number_of modules x) f k e in
      true_not f.item.symbol.is_local (text_is_local (IsFirst vs) texts owner n f.item f.item.symbol.kind f.passed i.0)
      (ap (λ j. j.symbol.is_local) s ∙ not_true k.item.symbol.is_local (both_left (not k.item.symbol.is_local) (same_name x k.item.symbol.name) k.passed))
