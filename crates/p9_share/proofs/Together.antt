-- Files whose modules join can be run together.
use Rattle.std.proofs.Common.{◌≡◌, ◌≢◌, ◌<◌, ◌≤◌, ◌⊎◌, inl, inr, ℕ, zero, suc, Bool, true, false, ◌||◌, List, [], ◌∷◌, map, flat_map, slice_index_or, Some, All, AllPairs, Contains, refl, sym, ap, ◌∙◌, subst, arith, codes}
use Rattle.std.specs.Prelude.{slice_get}
use Rattle.p9_abs.specs.declared.modules.AModule.{AModule}
use Rattle.p9_abs.specs.declared.modules.Symbol.{Symbol}
use Rattle.p9_abs.specs.declared.modules.DataPiece.TheVariants.{Raw}
use Rattle.p9_abs.specs.declared.modules.Body.TheVariants.{Used, Data}
use Rattle.p9_abs.specs.Modules.{is_definition, is_full}
use Rattle.p9_base.specs.Numbers.{word_bytes}
use Rattle.p9_first.specs.Form.{same_name, is_among, functions, IsFile}
use Rattle.p9_form.specs.declared.file.Statement.{Statement}
use Rattle.p9_form.specs.declared.file.First.{First}
use Rattle.p9_form.specs.declared.file.First.TheVariants as first
use Rattle.p9_form.specs.declared.file.Declaration.{Declaration}
use Rattle.p9_form.specs.declared.file.File.{File}
use Rattle.p9_form.specs.Items.{items_of}
use Rattle.p9_form.specs.Sharing.{Initial, initial_in, initials, defined_names, declarations, statements, mains, names_in, AreJoined}
use Rattle.p9_form.proofs.Formed.{FitStatements, FitsMain, names_behind, FitsFile, file_fits}
use Rattle.p9_names.specs.declared.rules.Rule.TheVariants.{Once}
use Rattle.p9_abs.specs.Names.{Occurs}
use Rattle.p9_names.specs.Linking.{IsKept, is_use}
use Rattle.p9_names.specs.Rules.{clash}
use Rattle.p9_abs.specs.BuiltIn.{linked}
use Rattle.p9_names.specs.Answers.{Joins}
use Rattle.p9_share.specs.Symbols.{module_of, symbols_of, variable_symbol, body_of, main_symbol, used_names}
use Rattle.p9_share.proofs.Valid.{same_self, parts_of, pairs_append, pairs_none, pairs_one, IsUnlike}
use Rattle.p9_share.proofs.Within.{Within, within_left, within_step, within_none, from_flat_map, all_within, from_all, contains_within, get_at}
use Rattle.p9_share.proofs.Mains.{one_main_at}
use Rattle.p9_share.proofs.Joined.{place_of, module_at, occurs_there, variable_there, main_there, Origin, OfSystem, OfVariable, OfMain, origin_of, From, OfFile, OfBuiltIn, symbol_from, builtin_names, AsZero, AsNumber, defined_name, variables_of, used_defines, defines_variable, names_statements, Declares, Before, Here, names_behind_of}

-- First values: of each name one

abbrev IsOther : Initial → Initial → Type 0
IsOther v w = v.name ≢ w.name

abbrev variables_in : File → List Initial
variables_in f = flat_map initial_in (declarations f)

-- what a declaration's first value is
initial_is : (d : Declaration) (v : Initial) → Within (initial_in d) v → (d.name ≡ v.name) × (d.first ≡ first.Number v.value)
initial_is d v w = by d.first refl w
  where
    by : (f : First) → d.first ≡ f → Within (initial_in (record d { first = f })) v → (d.name ≡ v.name) × (d.first ≡ first.Number v.value)
    by first.Extern e w = absurd (within_none v w)
    by first.Zero e w = absurd (within_none v w)
    by (first.Number value) e w = own (within_step (record { name = d.name; value = value }) [] v w)
      where
        own : (record { name = d.name; value = value } ≡ v) ⊎ Within [] v → (d.name ≡ v.name) × (d.first ≡ first.Number v.value)
        own (inl g) = (ap (λ (i : Initial). i.name) g, e ∙ ap (λ (i : Initial). first.Number i.value) g)
        own (inr n) = absurd (within_none v n)

pairs_initial_by : (d : Declaration) (f : First) → AllPairs IsOther (initial_in (record d { first = f }))
pairs_initial_by d first.Extern = pairs_none IsOther
pairs_initial_by d first.Zero = pairs_none IsOther
pairs_initial_by d (first.Number value) = pairs_one IsOther (record { name = d.name; value = value })

pairs_initial : (d : Declaration) → AllPairs IsOther (initial_in d)
pairs_initial d = pairs_initial_by d d.first

-- pairs of the parts of a list's elements
pairs_flat : {X : Type 0} (R : X → X → Type 0) (f : X → List Initial) (xs : List X)
    → ((x : X) → Within xs x → AllPairs IsOther (f x)) → AllPairs R xs → ((x y : X) → R x y → All (λ u. All (IsOther u) (f y)) (f x))
    → AllPairs IsOther (flat_map f xs)
pairs_flat R f [] own p across = pairs_none IsOther
pairs_flat R f (x ∷ xs) own p across =
    pairs_append IsOther (f x) (flat_map f xs) (own x (0, refl))
    (pairs_flat R f xs (λ y w. own y (suc w.0, w.1)) (λ i j d l m. p (suc i) (suc j) d (omega (arith, l)) (omega (arith, m))) across)
    (from_all (λ u. All (IsOther u) (flat_map f xs)) (f x) (λ u w. from_all (IsOther u) (flat_map f xs) (λ v g. between u w v (from_flat_map f xs v g))))
  where
    between : (u : Initial) → Within (f x) u → (v : Initial) → (y : _) × Within xs y × Within (f y) v → IsOther u v
    between u w v r =
        all_within (IsOther u) (f r.0) v (all_within (λ u. All (IsOther u) (f r.0)) (f x) u (across x r.0 (later r.0 r.1)) w) r.2
      where
        later : (y : _) → Within xs y → R x y
        later y g = all_within (R x) xs y (λ k d l. p 0 (suc k) d (omega arith) (omega (arith, l))) g

-- Within one file

unlike_initials : (d e : Declaration) → IsUnlike d e → All (λ u. All (IsOther u) (initial_in e)) (initial_in d)
unlike_initials d e n =
    from_all (λ u. All (IsOther u) (initial_in e)) (initial_in d) (λ u w. from_all (IsOther u) (initial_in e) (λ v g o. n ((initial_is d u w).0 ∙ (o ∙ sym (initial_is e v g).0))))

file_pairs : (f : File) → FitsFile f → AllPairs IsOther (variables_in f)
file_pairs f h =
    let p = parts_of f h in
    pairs_flat IsUnlike initial_in (declarations f) (λ d w. pairs_initial d)
    (pairs_append IsUnlike f.before f.after p.pairs_before p.pairs_after p.across)
    (λ d e n. unlike_initials d e n)

-- Across files

data_body : (names : List (List ℕ)) (d : Declaration) (value : ℕ) → d.first ≡ first.Number value → (variable_symbol names d).body ≡ Data (Raw (word_bytes value) ∷ [])
data_body names d value e = ap (λ f. body_of f (is_among names d.name)) e

across_files : (files : List File) (i j : ℕ) (f g : File) → IsKept Once (linked (map module_of files)) → i < j → slice_get files i ≡ Some f → slice_get files j ≡ Some g
    → All (λ u. All (IsOther u) (variables_in g)) (variables_in f)
across_files files i j f g kept l a b =
    from_all (λ u. All (IsOther u) (variables_in g)) (variables_in f) (λ u w. from_all (IsOther u) (variables_in g) (λ v x o. both u v (from_flat_map initial_in (declarations f) u w) (from_flat_map initial_in (declarations g) v x) o))
  where
    both : (u v : Initial) → (d : Declaration) × Within (declarations f) d × Within (initial_in d) u → (e : Declaration) × Within (declarations g) e × Within (initial_in e) v → u.name ≡ v.name → ⊥
    both u v r t o =
        let d = r.0 in
        let e = t.0 in
        let p = initial_is d u r.2 in
        let q = initial_is e v t.2 in
        let x = variable_there f d r.1 in
        let y = variable_there g e t.1 in
        let n : e.name ≡ d.name = q.0 ∙ (sym o ∙ sym p.0) in
        kept d.name (place_of i x.0) (place_of j y.0) (record {
          early = variable_symbol (used_names f) d;
          late = variable_symbol (used_names g) e;
          early_occurs = occurs_there files i x.0 f (variable_symbol (used_names f) d) a x.1 refl;
          late_occurs = subst (λ m. Occurs (linked (map module_of files)) m (place_of j y.0) (variable_symbol (used_names g) e)) n (occurs_there files j y.0 g (variable_symbol (used_names g) e) b y.1 refl);
          ordered = l;
          broken =
              ap (λ o. clash o (variable_symbol (used_names g) e).body) (data_body (used_names f) d u.value p.1)
              ∙ ap is_full (data_body (used_names g) e v.value q.1);
        })

once_all : (files : List File) → All (λ f. IsFile (items_of f)) files → IsKept Once (linked (map module_of files)) → AllPairs IsOther (initials files)
once_all files h kept =
    pairs_flat (λ f g. All (λ u. All (IsOther u) (variables_in g)) (variables_in f)) variables_in files
    (λ f w. file_pairs f (file_fits f (all_within (λ f. IsFile (items_of f)) files f h w)))
    (λ i j d l m. across_files files i j (slice_index_or files i d) (slice_index_or files j d) kept l (get_at files i d (omega (arith, l, m))) (get_at files j d m))
    (λ f g r. r)

-- `main`: one file has it

main_conflict : (files : List File) (i j : ℕ) (f g : File) (ss ts : List Statement) → IsKept Once (linked (map module_of files)) → i < j
    → slice_get files i ≡ Some f → slice_get files j ≡ Some g → f.main ≡ Some ss → g.main ≡ Some ts → ⊥
main_conflict files i j f g ss ts kept l a b m n =
    let x = main_there f ss m in
    let y = main_there g ts n in
    kept (codes "main") (place_of i x.0) (place_of j y.0) (record {
      early = main_symbol;
      late = main_symbol;
      early_occurs = occurs_there files i x.0 f main_symbol a x.1 refl;
      late_occurs = occurs_there files j y.0 g main_symbol b y.1 refl;
      ordered = l;
      broken = refl;
    })

le_or_lt : (a b : ℕ) → (a ≤ b) ⊎ (b < a)
le_or_lt zero b = inl (omega arith)
le_or_lt (suc a) zero = inr (omega arith)
le_or_lt (suc a) (suc b) = up (le_or_lt a b)
  where
    up : (a ≤ b) ⊎ (b < a) → (suc a ≤ suc b) ⊎ (suc b < suc a)
    up (inl h) = inl (omega (arith, h))
    up (inr h) = inr (omega (arith, h))

same_place : (i j : ℕ) → (i < j → ⊥) → (j < i → ⊥) → j ≡ i
same_place i j p q = by (le_or_lt i j) (le_or_lt j i)
  where
    by : (i ≤ j) ⊎ (j < i) → (j ≤ i) ⊎ (i < j) → j ≡ i
    by (inr l) o = absurd (q l)
    by (inl l) (inr m) = absurd (p m)
    by (inl l) (inl m) = omega (arith, l, m)

-- where `main` is
pub record MainFile (files : List File) : Type 0 where
  pub place : ℕ
  pub file : File
  pub statements : List Statement
  pub there : slice_get files place ≡ Some file
  pub has : file.main ≡ Some statements

find_main : (files : List File) (s : Symbol) → All (λ f. IsFile (items_of f)) files → From files s → s.local ≡ false → is_definition s.body ≡ true → s.name ≡ codes "main" → MainFile files
find_main files s h (OfBuiltIn w) l d n =
    let r = builtin_names s w l d in absurd (apart (sym (ap (λ x. same_name x (codes "main")) n) ∙ r.1))
  where
    apart : true ≡ false → ⊥
    apart e = cc
find_main files s h (OfFile i f e w) l d n = by (origin_of f s w)
  where
    apart : true ≡ false → ⊥
    apart e = cc

    by : Origin f s → MainFile files
    by (OfSystem u) = absurd (used_defines s u d)
    by (OfVariable c v o) =
        let i = variables_of f (file_fits f (all_within (λ f. IsFile (items_of f)) files f h (i, e))) c v in
        absurd (apart (sym (ap (is_among functions) (ap (λ (t : Symbol). t.name) (sym o) ∙ n)) ∙ i.other))
    by (OfMain ss m o) = record { place = i; file = f; statements = ss; there = e; has = m }

main_is_one : (files : List File) → IsKept Once (linked (map module_of files)) → (r : MainFile files) → mains files ≡ r.statements ∷ []
main_is_one files kept r =
    one_main_at files r.place r.file r.statements r.there r.has
    (λ j g ts e m. same_place r.place j
    (λ l. main_conflict files r.place j r.file g r.statements ts kept l r.there e r.has m)
    (λ l. main_conflict files j r.place g r.file ts r.statements kept l e r.there m r.has))

-- What `main` names is defined

abbrev names_before : File → List (List ℕ)
names_before f = names_behind [] f.before

main_statements : (f : File) (ss : List Statement) → FitsFile f → f.main ≡ Some ss → FitStatements (names_before f) ss
main_statements f ss h e = subst (λ m. FitsMain (names_before f) m) e h.main

used_in : (f : File) (ss : List Statement) (x : List ℕ) → f.main ≡ Some ss → Within (flat_map names_in ss) x → is_among (used_names f) x ≡ true
used_in f ss x e w = ap (λ m. is_among (flat_map names_in (statements m)) x) e ∙ among (flat_map names_in ss) w
  where
    or_true : (b : Bool) → (b || true) ≡ true
    or_true true = refl
    or_true false = refl

    among : (xs : List (List ℕ)) → Within xs x → is_among xs x ≡ true
    among [] w = absurd (within_none x w)
    among (y ∷ ys) w = by (within_step y ys x w) (λ v. among ys v)
      where
        by : (y ≡ x) ⊎ Within ys x → (Within ys x → is_among ys x ≡ true) → is_among (y ∷ ys) x ≡ true
        by (inl e) again = ap (λ z. is_among (z ∷ ys) x) e ∙ ap (λ b. b || is_among ys x) (same_self x)
        by (inr v) again = ap (λ b. same_name x y || b) (again v) ∙ or_true (same_name x y)

named_defined : (files : List File) (x : List ℕ) → All (λ f. IsFile (items_of f)) files → Joins (linked (map module_of files)) → (r : MainFile files)
    → Within (flat_map names_in r.statements) x → Within (defined_names files) x
named_defined files x h j r w =
    by (names_behind_of [] f.before x (names_statements (names_before f) r.statements x (main_statements f r.statements fits r.has) w))
  where
    f : File
    f = r.file

    fits : FitsFile r.file
    fits = file_fits r.file (all_within (λ f. IsFile (items_of f)) files r.file h (r.place, r.there))

    of_declaration : (d : Declaration) → Within (declarations r.file) d → d.name ≡ x → (g : First) → d.first ≡ g → Within (defined_names files) x
    of_declaration d v n first.Zero e =
        subst (λ y. Within (defined_names files) y) n (defined_name files r.file d (r.place, r.there) v (AsZero e))
    of_declaration d v n (first.Number value) e =
        subst (λ y. Within (defined_names files) y) n (defined_name files r.file d (r.place, r.there) v (AsNumber value e))
    of_declaration d v n first.Extern e =
        let k = variable_there r.file d v in
        let u : is_among (used_names r.file) d.name ≡ true = ap (is_among (used_names r.file)) n ∙ used_in r.file r.statements x r.has w in
        let b : (variable_symbol (used_names r.file) d).body ≡ Used = ap (λ g. body_of g (is_among (used_names r.file) d.name)) e ∙ ap (λ c. body_of first.Extern c) u in
        let resolved = j.resolved d.name (place_of r.place k.0) (record {
          user = module_of r.file;
          symbol = variable_symbol (used_names r.file) d;
          number = module_at files r.place r.file r.there;
          occurs = occurs_there files r.place k.0 r.file (variable_symbol (used_names r.file) d) r.there k.1 refl;
          used = ap (is_use (symbols_of r.file) k.0) b;
        }) in
        subst (λ y. Within (defined_names files) y) n
        (defines_variable files d.name resolved.0 h (variables_of r.file fits d v) resolved.1)

    by : Declares [] r.file.before x → Within (defined_names files) x
    by (Before b) = absurd (nothing b)
      where
        nothing : false ≡ true → ⊥
        nothing e = cc
    by (Here d v n) = of_declaration d (within_left r.file.before r.file.after d v) n d.first refl

-- All together

together : (files : List File) → All (λ f. IsFile (items_of f)) files → Joins (linked (map module_of files)) → AreJoined files
together files h j =
    let s = j.main.first.defines.symbol in
    let o = j.main.first.defines.occurs in
    let r = find_main files s h (symbol_from files j.main.place s o.stands) o.global j.main.first.defines.defining o.named in
    record {
      main = r.statements;
      one_main = main_is_one files j.once r;
      once = once_all files h j.once;
      resolved = from_all (λ x. Contains (defined_names files) x) (flat_map names_in r.statements) (λ x w. contains_within (defined_names files) x (named_defined files x h j r w));
    }

pub files_join : (files : List File) (modules : List AModule) → modules ≡ map module_of files → All (λ f. IsFile (items_of f)) files → Joins (linked modules) → AreJoined files
files_join files modules e h j = together files h (subst (λ ms. Joins (linked ms)) e j)
