-- The C modules of files that fit together join.
use Rattle.std.proofs.Common.{◌≡◌, inl, ◌<◌, ℕ, Bool, true, false, not, IsTrue, List, map, length, Some, None, Option, All, refl, sym, ap, ◌∙◌, subst, arith, codes}
use Rattle.std.specs.Prelude.{slice_get}
use Rattle.p9_first.specs.Types.{TypeTree}
use Rattle.p9_first.specs.Layout.{size_of}
use Rattle.p9_first.specs.Form.{is_among, IsFile}
use Rattle.p9_first.specs.Modules.{system_type}
use Rattle.p9_form.specs.declared.file.First.{First}
use Rattle.p9_form.specs.declared.file.First.TheVariants as first
use Rattle.p9_form.specs.declared.file.Declaration.{Declaration}
use Rattle.p9_form.specs.declared.file.File.{File}
use Rattle.p9_form.specs.Items.{items_of, source_of}
use Rattle.p9_share.specs.Symbols.{used_names}
use Rattle.p9_share.proofs.Within.{get_below}
use Rattle.p9_first.specs.Joins.{Role, Declares, Uses, DefinesCode, DefinesData, DefinesCommon, Occurrence, Occurs, defines, may_meet, AgreeIfKnown, SameSize, Meet, IsMainCode, Join}
use Rattle.p9_agree.proofs.Declared.{number_type, first_role, main_brief}
use Rattle.p9_agree.proofs.Seen.{shown, variable_seen, IsMereRole, Seen, SeenSystem, SeenVariable, SeenMain, seen_of, variable_seen_there, main_seen_there}
use Rattle.p9_agree.proofs.Fit.{AreAlike, HasDefinition, Fit, true_false}
use Rattle.p9_agree.proofs.FromNames.{no_function}
use Rattle.p9_agree.proofs.FromSources.{file_of, may_meet_is, defines_is}
use Rattle.p9_agree.proofs.Sources.{sources, Owner, OfFile, OfSuite, owner_of, occurs_in_file, occurs_in_suite, OfTheSuite, UsesMain, HasCall, suite_of, call_there, not_call, call_not_main, not_main}

abbrev AreFiles : List File → Type 0
AreFiles files = All (λ f. IsFile (items_of f)) files

-- Occurrences that meet

agree_same : (s t : Option TypeTree) → s ≡ t → AgreeIfKnown s t
agree_same None t e = tt
agree_same (Some a) None e = tt
agree_same (Some a) (Some b) e = let g : Some a ≡ Some b = e in cc

sizes_same : (s t : Option TypeTree) → s ≡ t → SameSize s t
sizes_same None t e = tt
sizes_same (Some a) None e = tt
sizes_same (Some a) (Some b) e = let g : Some a ≡ Some b = e in ap size_of (some_is g)
  where
    some_is : {x y : TypeTree} → Some x ≡ Some y → x ≡ y
    some_is h = cc

meets : (a b : Occurrence) → may_meet a.role b.role ≡ true → a.type ≡ b.type → Meet a b
meets a b m t = record { once = m; agree = agree_same a.type b.type t; sizes = λ p q. sizes_same a.type b.type t }

mere_left : (r s : Role) → IsMereRole r → may_meet r s ≡ true
mere_left Declares s h = refl
mere_left Uses s h = refl
mere_left DefinesCode s h = absurd h
mere_left DefinesData s h = absurd h
mere_left DefinesCommon s h = absurd h

abbrev name_of : Occurrence → List ℕ
name_of o = o.name

variables_meet : (names others : List (List ℕ)) (d e : Declaration) → AreAlike d e → Meet (variable_seen names d) (variable_seen others e)
variables_meet names others d e h =
    meets (variable_seen names d) (variable_seen others e)
    (may_meet_is d.first e.first (is_among names d.name) (is_among others e.name) ∙ ap not h.once)
    (ap (λ l. Some (number_type l)) h.length)

system_type_same : (a b : Occurrence) → a.name ≡ b.name → a.type ≡ Some (system_type a.name) → b.type ≡ Some (system_type b.name) → a.type ≡ b.type
system_type_same a b n t u = t ∙ ap (λ x. Some (system_type x)) n ∙ sym u

-- two files
files_meet : (files : List File) (i j : ℕ) (f g : File) (a b : Occurrence) → AreFiles files → Fit files → i < j → slice_get files i ≡ Some f → slice_get files j ≡ Some g
    → Seen f a → Seen g b → a.name ≡ b.name → Meet a b
files_meet files i j f g a b h k l p q (SeenSystem s t r) (SeenSystem s' t' r') n = meets a b (mere_left a.role b.role r) (system_type_same a b n t t')
files_meet files i j f g a b h k l p q (SeenSystem s t r) (SeenVariable d w o) n = absurd (not_call a.name d.name s (no_function files j g d h q w) (n ∙ ap name_of o))
files_meet files i j f g a b h k l p q (SeenSystem s t r) (SeenMain ts m o) n = absurd (call_not_main a.name s (n ∙ ap name_of o))
files_meet files i j f g a b h k l p q (SeenVariable d w o) (SeenSystem s t r) n = absurd (not_call b.name d.name s (no_function files i f d h p w) (sym n ∙ ap name_of o))
files_meet files i j f g a b h k l p q (SeenVariable d w o) (SeenVariable e v o') n =
    subst (λ x. Meet x b) (sym o)
    (subst (λ y. Meet (variable_seen (used_names f) d) y) (sym o')
    (variables_meet (used_names f) (used_names g) d e (k.alike i j f g d e l p q w v (sym (ap name_of o') ∙ sym n ∙ ap name_of o))))
files_meet files i j f g a b h k l p q (SeenVariable d w o) (SeenMain ts m o') n = absurd (not_main d.name (no_function files i f d h p w) (sym (ap name_of o) ∙ n ∙ ap name_of o'))
files_meet files i j f g a b h k l p q (SeenMain ss m o) (SeenSystem s t r) n = absurd (call_not_main b.name s (sym n ∙ ap name_of o))
files_meet files i j f g a b h k l p q (SeenMain ss m o) (SeenVariable d w o') n = absurd (not_main d.name (no_function files j g d h q w) (sym (ap name_of o') ∙ sym n ∙ ap name_of o))
files_meet files i j f g a b h k l p q (SeenMain ss m o) (SeenMain ts m' o') n = absurd (k.one_main i j f g ss ts l p q m m')

-- a file and the suite's own module
suite_meets : (files : List File) (i : ℕ) (f : File) (a b : Occurrence) → AreFiles files → slice_get files i ≡ Some f → Seen f a → OfTheSuite b → a.name ≡ b.name → Meet a b
suite_meets files i f a b h p (SeenSystem s t r) (UsesMain g) n = absurd (call_not_main a.name s (n ∙ ap name_of g))
suite_meets files i f a b h p (SeenSystem s t r) (HasCall s' t' r') n = meets a b (mere_left a.role b.role r) (system_type_same a b n t t')
suite_meets files i f a b h p (SeenVariable d w o) (UsesMain g) n = absurd (not_main d.name (no_function files i f d h p w) (sym (ap name_of o) ∙ n ∙ ap name_of g))
suite_meets files i f a b h p (SeenVariable d w o) (HasCall s t r) n = absurd (not_call b.name d.name s (no_function files i f d h p w) (sym n ∙ ap name_of o))
suite_meets files i f a b h p (SeenMain ss m o) (UsesMain g) n =
    subst (λ x. Meet x b) (sym o) (subst (λ y. Meet main_brief y) (sym g) (record { once = refl; agree = tt; sizes = λ p q. tt }))
suite_meets files i f a b h p (SeenMain ss m o) (HasCall s t r) n = absurd (call_not_main b.name s (sym n ∙ ap name_of o))

all_meet : (files : List File) (i j : ℕ) (a b : Occurrence) → AreFiles files → Fit files → i < j → Owner files i a → Owner files j b → a.name ≡ b.name → Meet a b
all_meet files i j a b h k l (OfFile f p w) (OfFile g q v) n = files_meet files i j f g a b h k l p q (seen_of f (file_of files i f h p) a w) (seen_of g (file_of files j g h q) b v) n
all_meet files i j a b h k l (OfFile f p w) (OfSuite e v) n = suite_meets files i f a b h p (seen_of f (file_of files i f h p) a w) (suite_of b v) n
all_meet files i j a b h k l (OfSuite e w) (OfFile g q v) n = absurd (let m = get_below files j g q in omega (arith, l, e, m))
all_meet files i j a b h k l (OfSuite e w) (OfSuite e' v) n = absurd (omega (arith, l, e, e'))

-- `main`

main_code : (files : List File) (i : ℕ) (a : Occurrence) → AreFiles files → Owner files i a → a.name ≡ codes "main" → defines a.role ≡ true → IsMainCode a
main_code files i a h (OfSuite e w) n d = by (suite_of a w)
  where
    by : OfTheSuite a → IsMainCode a
    by (UsesMain g) = absurd (true_false (sym d ∙ ap (λ (o : Occurrence). defines o.role) g))
    by (HasCall s t r) = absurd (call_not_main a.name s n)
main_code files i a h (OfFile f e w) n d = by (seen_of f (file_of files i f h e) a w)
  where
    by : Seen f a → IsMainCode a
    by (SeenSystem s t r) = absurd (call_not_main a.name s n)
    by (SeenVariable c v o) = absurd (not_main c.name (no_function files i f c h e v) (sym (ap name_of o) ∙ n))
    by (SeenMain ss m o) = subst IsMainCode (sym o) (record { code = refl; type = inl refl })

main_occurs : (files : List File) → AreFiles files → (k : Fit files) → Occurs (sources files) k.main.place main_brief
main_occurs files h k =
    occurs_in_file files k.main.place k.main.file main_brief k.main.there (main_seen_there k.main.file (file_of files k.main.place k.main.file h k.main.there) k.main.statements k.main.has)

-- Uses

abbrev IsResolved : List File → List ℕ → Type 0
IsResolved files x = (j : ℕ) × (b : Occurrence) × Occurs (sources files) j b × (b.name ≡ x) × IsTrue (defines b.role)

definition_occurs : (files : List File) (x : List ℕ) → AreFiles files → HasDefinition files x → IsResolved files x
definition_occurs files x h d = (
  d.place,
  variable_seen (used_names d.file) d.declaration,
  occurs_in_file files d.place d.file (variable_seen (used_names d.file) d.declaration) d.there (variable_seen_there d.file (file_of files d.place d.file h d.there) d.declaration d.declared),
  d.named,
  defines_is d.declaration.first (is_among (used_names d.file) d.declaration.name) ∙ d.defining,
)

-- a variable that is used and not defined is declared as `extern`
use_is : (f : First) (used : Bool) → shown (first_role f) used ≡ Uses → (f ≡ first.Extern) × (used ≡ true)
use_is first.Extern true h = (refl, refl)
use_is first.Extern false h = absurd (let e : Declares ≡ Uses = h in cc)
use_is first.Zero used h = absurd (let e : DefinesCommon ≡ Uses = h in cc)
use_is (first.Number value) used h = absurd (let e : DefinesData ≡ Uses = h in cc)

code_is_no_use : DefinesCode ≡ Uses → ⊥
code_is_no_use h = cc

all_resolved : (files : List File) (i : ℕ) (a : Occurrence) → AreFiles files → Fit files → Owner files i a → a.role ≡ Uses → IsResolved files a.name
all_resolved files i a h k (OfSuite e w) u = by (suite_of a w)
  where
    by : OfTheSuite a → IsResolved files a.name
    by (UsesMain g) = (k.main.place, main_brief, main_occurs files h k, sym (ap name_of g), refl)
    by (HasCall s t r) = absurd (code_is_no_use (sym r ∙ u))
all_resolved files i a h k (OfFile f e w) u = by (seen_of f (file_of files i f h e) a w)
  where
    by : Seen f a → IsResolved files a.name
    by (SeenSystem s t r) =
        (length files, record { name = a.name; type = Some (system_type a.name); role = DefinesCode }, occurs_in_suite files (record { name = a.name; type = Some (system_type a.name); role = DefinesCode }) (call_there a.name s), refl, refl)
    by (SeenVariable d v o) =
        let r = use_is d.first (is_among (used_names f) d.name) (sym (ap (λ (x : Occurrence). x.role) o) ∙ u) in
        subst (IsResolved files) (sym (ap name_of o)) (definition_occurs files d.name h (k.resolved i f d e v r.0 r.1))
    by (SeenMain ss m o) = absurd (code_is_no_use (sym (ap (λ (x : Occurrence). x.role) o) ∙ u))

-- All together

pub fit_to_sources : (files : List File) → All (λ f. IsFile (items_of f)) files → Fit files → Join (map source_of files)
fit_to_sources files h k = record {
  meet = λ i j a b l p q n. all_meet files i j a b h k l (owner_of files i a p) (owner_of files j b q) n;
  main_defined = (k.main.place, main_brief, main_occurs files h k, refl, refl);
  main_code = λ i a p n d. main_code files i a h (owner_of files i a p) n d;
  resolved = λ i a p u. all_resolved files i a h k (owner_of files i a p) u;
}
