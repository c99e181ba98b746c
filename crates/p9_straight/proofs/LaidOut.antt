-- The variables of joined files lie at their addresses, each apart from the others, with their first values.
use Rattle.std.proofs.Common.{◌≡◌, ◌<◌, ◌≤◌, ◌⊎◌, inl, inr, ℕ, zero, suc, ◌+◌, ◌-◌, ◌*◌, ◌%◌, ◌^◌, Bool, true, false, ◌||◌, if◌then◌else◌, List, [], ◌∷◌, ◌++◌, length, map, replicate, flat_map, slice_index, slice_index_or, Contains, Some, None, Option, unwrap_or, refl, sym, ap, ◌∙◌, subst, arith, append-nil}
use Rattle.std.proofs.lemmas.List.Elements.{Contains-append_cases}
use Rattle.p9_base.specs.Numbers.{word_at}
use Rattle.p9_r3k.specs.Start.{zeros}
use Rattle.p9_first.specs.Form.{same_name, is_among}
use Rattle.p9_first.specs.Modules.{new_names}
use Rattle.p9_form.specs.declared.file.File.{File}
use Rattle.p9_form.specs.Sharing.{statements, Initial, initials, tentatives, defined_names}
use Rattle.p9_straight.specs.Layout.{Datum, Variable, Text, end_text, text_in, datum_bytes, variable_in, common_in, or_else, variables_of, data_of, data_objects, init_bytes, commons, bss_size, address_of}
use Rattle.p9_straight.specs.Code.{data_start, place_in}
use Rattle.p9_straight.specs.FormRun.{initial_of}
use Rattle.p9_straight.proofs.Placed.{AreVariables}
use Rattle.p9_straight.proofs.Positions.{same_is, same_self, none_not, bytes_words, variables, AreWords, variable_from, variable_within, variable_aligned, variable_first, variable_apart, common_from, common_within, common_aligned, common_apart, word_behind}

-- The variables among the data of files are those with first values

variables_append : (ds es : List Datum) → variables (ds ++ es) ≡ variables ds ++ variables es
variables_append [] es = refl
variables_append (Variable v ∷ ds) es = ap (λ vs. v ∷ vs) (variables_append ds es)
variables_append (Text text ∷ ds) es = variables_append ds es

variables_own : (vs : List Initial) → variables (map Variable vs) ≡ vs
variables_own [] = refl
variables_own (v ∷ vs) = ap (λ us. v ∷ us) (variables_own vs)

variables_none : (texts : List (List ℕ)) → variables (map Text texts) ≡ []
variables_none [] = refl
variables_none (text ∷ texts) = variables_none texts

variables_of_file : (file : File) → variables (data_of file) ≡ variables_of file
variables_of_file file =
    variables_append (map Variable (variables_of file)) (map Text (flat_map text_in (statements file.main)))
    ∙ ap (λ vs. vs ++ variables (map Text (flat_map text_in (statements file.main)))) (variables_own (variables_of file))
    ∙ ap (λ vs. variables_of file ++ vs) (variables_none (flat_map text_in (statements file.main)))
    ∙ append-nil (variables_of file)

variables_of_files : (files : List File) → variables (flat_map data_of files) ≡ initials files
variables_of_files [] = refl
variables_of_files (file ∷ files) =
    variables_append (data_of file) (flat_map data_of files)
    ∙ ap (λ vs. vs ++ variables (flat_map data_of files)) (variables_of_file file)
    ∙ ap (λ vs. variables_of file ++ vs) (variables_of_files files)

pub variables_are : (files : List File) → variables (data_objects files) ≡ initials files
variables_are files = variables_append (flat_map data_of files) (Text end_text ∷ []) ∙ append-nil (variables (flat_map data_of files)) ∙ variables_of_files files

-- Names that have no place among the data

abbrev names_of : List Initial → List (List ℕ)
names_of vs = map (λ v. v.name) vs

missing_among : (at : ℕ) (ds : List Datum) (x : List ℕ) → variable_in at ds x ≡ None → is_among (names_of (variables ds)) x ≡ false
missing_among at [] x h = refl
missing_among at (Text text ∷ ds) x h = missing_among (at + length (Rattle.p9_straight.specs.Layout.text_bytes text)) ds x h
missing_among at (Variable v ∷ ds) x h = by (same_name x v.name) (λ g. missing_among (at + 4) ds x g) h
  where
    by : (b : Bool) → (variable_in (at + 4) ds x ≡ None → is_among (names_of (variables ds)) x ≡ false)
        → (if b then Some at else variable_in (at + 4) ds x) ≡ None → (b || is_among (names_of (variables ds)) x) ≡ false
    by true again g = absurd (none_not (sym g))
    by false again g = again g

missing_zero : (at : ℕ) (ds : List Datum) (x : List ℕ) → variable_in at ds x ≡ None → initial_of (variables ds) x ≡ 0
missing_zero at [] x h = refl
missing_zero at (Text text ∷ ds) x h = missing_zero (at + length (Rattle.p9_straight.specs.Layout.text_bytes text)) ds x h
missing_zero at (Variable v ∷ ds) x h = by (same_name x v.name) (λ g. missing_zero (at + 4) ds x g) h
  where
    by : (b : Bool) → (variable_in (at + 4) ds x ≡ None → initial_of (variables ds) x ≡ 0)
        → (if b then Some at else variable_in (at + 4) ds x) ≡ None → (if b then v.value else initial_of (variables ds) x) ≡ 0
    by true again g = absurd (none_not (sym g))
    by false again g = again g

contains_step : (y : List ℕ) (ys : List (List ℕ)) (x : List ℕ) → Contains (y ∷ ys) x → (y ≡ x) ⊎ Contains ys x
contains_step y ys x c = go c.0 c.1 c.2
  where
    go : (k : ℕ) → k < length (y ∷ ys) → slice_index_or (y ∷ ys) k x ≡ x → (y ≡ x) ⊎ Contains ys x
    go zero l e = inl e
    go (suc k) l e = inr (k, omega (arith, l), e)

contains_among : (ys : List (List ℕ)) (x : List ℕ) → Contains ys x → is_among ys x ≡ true
contains_among [] x c = absurd (omega (arith, c.1))
contains_among (y ∷ ys) x c = by (contains_step y ys x c) (λ d. contains_among ys x d)
  where
    same : y ≡ x → same_name x y ≡ true
    same e = ap (same_name x) e ∙ same_self x

    or_true : (b : Bool) → (b || true) ≡ true
    or_true true = refl
    or_true false = refl

    by : (y ≡ x) ⊎ Contains ys x → (Contains ys x → is_among ys x ≡ true) → (same_name x y || is_among ys x) ≡ true
    by (inl e) again = ap (λ b. b || is_among ys x) (same e)
    by (inr d) again = ap (λ b. same_name x y || b) (again d) ∙ or_true (same_name x y)

-- a name that isn't known is found among the new ones
new_there : (at : ℕ) (known ys : List (List ℕ)) (x : List ℕ) → is_among ys x ≡ true → is_among known x ≡ false
    → (a : ℕ) × (common_in at (new_names known ys) x ≡ Some a)
new_there at known [] x h u = absurd (apart h)
  where
    apart : false ≡ true → ⊥
    apart e = cc
new_there at known (y ∷ ys) x h u =
    by (same_name x y) refl (is_among known y) refl
    (λ g. new_there at known ys x g u)
    (λ g v. new_there (at + 4) (y ∷ known) ys x g v)
    h
  where
    Found : List (List ℕ) → Type 0
    Found names = (a : ℕ) × (common_in at names x ≡ Some a)

    apart : true ≡ false → ⊥
    apart e = cc

    skipped : same_name x y ≡ false → (a : ℕ) → common_in (at + 4) (new_names (y ∷ known) ys) x ≡ Some a → Found (y ∷ new_names (y ∷ known) ys)
    skipped e a g = (a, ap (λ b. if b then Some at else common_in (at + 4) (new_names (y ∷ known) ys) x) e ∙ g)

    by : (b : Bool) → same_name x y ≡ b → (c : Bool) → is_among known y ≡ c
        → (is_among ys x ≡ true → Found (new_names known ys))
        → (is_among ys x ≡ true → (same_name x y || is_among known x) ≡ false → (a : ℕ) × (common_in (at + 4) (new_names (y ∷ known) ys) x ≡ Some a))
        → (b || is_among ys x) ≡ true → Found (if c then new_names known ys else y ∷ new_names (y ∷ known) ys)
    by true e true k again later g = absurd (apart (sym k ∙ ap (is_among known) (sym (same_is x y e)) ∙ u))
    by true e false k again later g = (at, ap (λ b. if b then Some at else common_in (at + 4) (new_names (y ∷ known) ys) x) e)
    by false e true k again later g = again g
    by false e false k again later g =
        let r = later g (ap (λ b. b || is_among known x) e ∙ u) in skipped e r.0 r.1

-- Every defined name has its place, among the data or behind them

abbrev pub behind_init : List File → ℕ
behind_init files = data_start files + length (init_bytes files)

-- x lies among the data, or behind them
pub record IsAmong (files : List File) (x : List ℕ) : Type 0 where
  pub at : ℕ
  pub found : variable_in (data_start files) (data_objects files) x ≡ Some at
  pub place : place_in files x ≡ at

pub record IsBehind (files : List File) (x : List ℕ) : Type 0 where
  pub at : ℕ
  pub missing : variable_in (data_start files) (data_objects files) x ≡ None
  pub found : common_in (behind_init files) (commons files) x ≡ Some at
  pub place : place_in files x ≡ at

names_map : (xs : List Initial) (x : List ℕ) → Contains (names_of xs) x → is_among (names_of xs) x ≡ true
names_map xs x c = contains_among (names_of xs) x c

pub where_it_lies : (files : List File) (x : List ℕ) → Contains (defined_names files) x → IsAmong files x ⊎ IsBehind files x
where_it_lies files x c = by (variable_in (data_start files) (data_objects files) x) refl
  where
    behind : variable_in (data_start files) (data_objects files) x ≡ None → IsBehind files x
    behind e =
        let m : is_among (names_of (initials files)) x ≡ false = ap (λ vs. is_among (names_of vs) x) (sym (variables_are files)) ∙ missing_among (data_start files) (data_objects files) x e in
        let t : is_among (tentatives files) x ≡ true = in_tentatives m (Contains-append_cases (names_of (initials files)) (tentatives files) x c) in
        let f = new_there (behind_init files) (names_of (initials files)) (tentatives files) x t m in
        record {
          at = f.0;
          missing = e;
          found = f.1;
          place =
              ap (λ o. unwrap_or (or_else o (common_in (behind_init files) (commons files) x)) 0) e
              ∙ ap (λ o. unwrap_or o 0) (f.1);
        }
      where
        apart : true ≡ false → ⊥
        apart e = cc

        in_tentatives : is_among (names_of (initials files)) x ≡ false → Contains (names_of (initials files)) x ⊎ Contains (tentatives files) x → is_among (tentatives files) x ≡ true
        in_tentatives m (inl d) = absurd (apart (sym (names_map (initials files) x d) ∙ m))
        in_tentatives m (inr d) = contains_among (tentatives files) x d

    by : (o : Option ℕ) → variable_in (data_start files) (data_objects files) x ≡ o → IsAmong files x ⊎ IsBehind files x
    by None e = inr (behind e)
    by (Some a) e = inl (record { at = a; found = e; place = ap (λ o. unwrap_or (or_else o (common_in (behind_init files) (commons files) x)) 0) e })

pub begin_aligned : (files : List File) → data_start files % 4 ≡ 0
begin_aligned files = omega arith

init_words : (files : List File) → length (init_bytes files) % 4 ≡ 0
init_words files = bytes_words (data_objects files)

zero_byte : (n i : ℕ) → slice_index (replicate {A = ℕ} n 0) i ≡ 0
zero_byte zero i = refl
zero_byte (suc n) zero = refl
zero_byte (suc n) (suc i) = zero_byte n i

zero_word : (n i : ℕ) → word_at (zeros n) i ≡ 0
unfolding zeros
zero_word n i = zero_sum _ _ _ _ (zero_byte n i) (zero_byte n (i + 1)) (zero_byte n (i + 2)) (zero_byte n (i + 3))
  where
    zero_sum : (a b c d : ℕ) → a ≡ 0 → b ≡ 0 → c ≡ 0 → d ≡ 0 → a * 2 ^ 24 + b * 2 ^ 16 + c * 2 ^ 8 + d ≡ 0
    zero_sum a b c d e f g h = omega (arith, e, f, g, h)

-- the word behind the data is zero
behind_zero : (init : List ℕ) (n begin a : ℕ) → begin + length init ≤ a → word_at (init ++ zeros n) (a - begin) ≡ 0
behind_zero init n begin a h =
    let e : a - begin ≡ length init + (a - (begin + length init)) = omega (arith, h) in
    ap (λ i. word_at (init ++ zeros n) i) e
    ∙ word_behind init (zeros n) (a - (begin + length init))
    ∙ zero_word n (a - (begin + length init))

abbrev pub Lies : List File → List ℕ → Type 0
Lies files x = IsAmong files x ⊎ IsBehind files x

lies_aligned : (files : List File) (x : List ℕ) → Lies files x → place_in files x % 4 ≡ 0
lies_aligned files x (inl r) =
    let a = variable_aligned (data_start files) (data_objects files) x r.at r.found (begin_aligned files) in ap (λ n. n % 4) r.place ∙ a
lies_aligned files x (inr r) =
    let b = begin_aligned files in
    let w = init_words files in
    let a = common_aligned (behind_init files) (commons files) x r.at r.found (omega (arith, b, w)) in ap (λ n. n % 4) r.place ∙ a

lies_from : (files : List File) (x : List ℕ) → Lies files x → data_start files ≤ place_in files x
lies_from files x (inl r) =
    let a = variable_from (data_start files) (data_objects files) x r.at r.found in subst (λ n. data_start files ≤ n) (sym r.place) a
lies_from files x (inr r) =
    let a = common_from (behind_init files) (commons files) x r.at r.found in
    let b : data_start files ≤ r.at = omega (arith, a) in
    subst (λ n. data_start files ≤ n) (sym r.place) b

lies_within : (files : List File) (x : List ℕ) → Lies files x → place_in files x + 4 ≤ data_start files + (length (init_bytes files) + bss_size files)
lies_within files x (inl r) =
    let a = variable_within (data_start files) (data_objects files) x r.at r.found in
    let b : r.at + 4 ≤ data_start files + (length (init_bytes files) + bss_size files) = omega (arith, a) in
    subst (λ n. n + 4 ≤ data_start files + (length (init_bytes files) + bss_size files)) (sym r.place) b
lies_within files x (inr r) =
    let a = common_within (behind_init files) (commons files) x r.at r.found in
    let b : r.at + 4 ≤ data_start files + (length (init_bytes files) + bss_size files) = omega (arith, a) in
    subst (λ n. n + 4 ≤ data_start files + (length (init_bytes files) + bss_size files)) (sym r.place) b

lies_apart : (files : List File) (x y : List ℕ) → Lies files x → Lies files y → place_in files x ≡ place_in files y → x ≡ y
lies_apart files x y (inl r) (inl t) e =
    variable_apart (data_start files) (data_objects files) x y r.at r.found (t.found ∙ ap Some (sym t.place ∙ sym e ∙ r.place))
lies_apart files x y (inl r) (inr t) e =
    let a = variable_within (data_start files) (data_objects files) x r.at r.found in
    let b = common_from (behind_init files) (commons files) y t.at t.found in
    let c : r.at ≡ t.at = sym r.place ∙ e ∙ t.place in
    absurd (omega (arith, a, b, c))
lies_apart files x y (inr r) (inl t) e =
    let a = variable_within (data_start files) (data_objects files) y t.at t.found in
    let b = common_from (behind_init files) (commons files) x r.at r.found in
    let c : r.at ≡ t.at = sym r.place ∙ e ∙ t.place in
    absurd (omega (arith, a, b, c))
lies_apart files x y (inr r) (inr t) e =
    common_apart (behind_init files) (commons files) x y r.at r.found (t.found ∙ ap Some (sym t.place ∙ sym e ∙ r.place))

lies_first : (files : List File) (x : List ℕ) → AreWords (initials files) → Lies files x
    → word_at (init_bytes files ++ zeros (bss_size files)) (place_in files x - data_start files) ≡ initial_of (initials files) x
lies_first files x w (inl r) =
    let v = subst AreWords (sym (variables_are files)) w in
    ap (λ n. word_at (init_bytes files ++ zeros (bss_size files)) (n - data_start files)) r.place
    ∙ variable_first (zeros (bss_size files)) (data_start files) (data_objects files) x r.at r.found v
    ∙ ap (λ vs. initial_of vs x) (variables_are files)
lies_first files x w (inr r) =
    let a = common_from (behind_init files) (commons files) x r.at r.found in
    ap (λ n. word_at (init_bytes files ++ zeros (bss_size files)) (n - data_start files)) r.place
    ∙ behind_zero (init_bytes files) (bss_size files) (data_start files) r.at a
    ∙ sym (missing_zero (data_start files) (data_objects files) x r.missing)
    ∙ ap (λ vs. initial_of vs x) (variables_are files)

pub variables_laid : (files : List File) → AreWords (initials files)
    → AreVariables (place_in files) (defined_names files) (data_start files) (init_bytes files) (bss_size files) (initial_of (initials files))
variables_laid files w = record {
  aligned = λ x c. lies_aligned files x (where_it_lies files x c);
  from = λ x c. lies_from files x (where_it_lies files x c);
  within = λ x c. lies_within files x (where_it_lies files x c);
  apart = λ x y c d e. lies_apart files x y (where_it_lies files x c) (where_it_lies files y d) e;
  first = λ x c. lies_first files x w (where_it_lies files x c);
}
