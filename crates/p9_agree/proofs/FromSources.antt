-- Files whose C modules join fit together.
use Rattle.std.proofs.Common.{◌≡◌, ◌<◌, ℕ, Bool, true, false, not, List, map, Some, All, refl, sym, ap, ◌∙◌, codes}
use Rattle.std.specs.Prelude.{slice_get}
use Rattle.p9_first.specs.Types.{Int, Long}
use Rattle.p9_first.specs.Form.{is_among, functions, IsFile}
use Rattle.p9_form.specs.declared.file.Statement.{Statement}
use Rattle.p9_form.specs.declared.file.First.{First}
use Rattle.p9_form.specs.declared.file.First.TheVariants as first
use Rattle.p9_form.specs.declared.file.Declaration.{Declaration}
use Rattle.p9_form.specs.declared.file.File.{File}
use Rattle.p9_form.specs.Items.{items_of, source_of}
use Rattle.p9_form.specs.Sharing.{declarations}
use Rattle.p9_share.specs.Symbols.{used_names}
use Rattle.p9_share.proofs.Within.{Within, all_within}
use Rattle.p9_first.specs.Joins.{Role, Declares, Uses, DefinesCode, DefinesData, DefinesCommon, Occurrence, defines, may_meet, Join}
use Rattle.p9_agree.proofs.Declared.{number_type, first_role, main_brief}
use Rattle.p9_agree.proofs.Seen.{shown, variable_seen, IsMereRole, Seen, SeenSystem, SeenVariable, SeenMain, seen_of, variable_seen_there, main_seen_there}
use Rattle.p9_agree.proofs.Fit.{defines_first, both_numbers, AreAlike, HasMainAt, HasDefinition, Fit, true_false, false_true}
use Rattle.p9_agree.proofs.FromNames.{no_function}
use Rattle.p9_agree.proofs.Sources.{Owner, OfFile, OfSuite, owner_of, occurs_in_file, OfTheSuite, UsesMain, HasCall, suite_of, not_call, call_not_main, not_main}

abbrev AreFiles : List File → Type 0
AreFiles files = All (λ f. IsFile (items_of f)) files

pub file_of : (files : List File) (i : ℕ) (f : File) → All (λ f. IsFile (items_of f)) files → slice_get files i ≡ Some f → IsFile (items_of f)
file_of files i f h e = all_within (λ f. IsFile (items_of f)) files f h (i, e)

-- Two declarations

pub may_meet_is : (f g : First) (u v : Bool) → may_meet (shown (first_role f) u) (shown (first_role g) v) ≡ not (both_numbers f g)
may_meet_is first.Extern first.Extern true true = refl
may_meet_is first.Extern first.Extern true false = refl
may_meet_is first.Extern first.Extern false true = refl
may_meet_is first.Extern first.Extern false false = refl
may_meet_is first.Extern first.Zero true v = refl
may_meet_is first.Extern first.Zero false v = refl
may_meet_is first.Extern (first.Number value) true v = refl
may_meet_is first.Extern (first.Number value) false v = refl
may_meet_is first.Zero first.Extern u true = refl
may_meet_is first.Zero first.Extern u false = refl
may_meet_is first.Zero first.Zero u v = refl
may_meet_is first.Zero (first.Number value) u v = refl
may_meet_is (first.Number value) first.Extern u true = refl
may_meet_is (first.Number value) first.Extern u false = refl
may_meet_is (first.Number value) first.Zero u v = refl
may_meet_is (first.Number value) (first.Number other) u v = refl

not_true : (b : Bool) → not b ≡ true → b ≡ false
not_true true h = cc
not_true false h = refl

same_length : (a b : Bool) → number_type a ≡ number_type b → a ≡ b
same_length true true h = refl
same_length true false h = absurd (let e : Long ≡ Int = h in cc)
same_length false true h = absurd (let e : Int ≡ Long = h in cc)
same_length false false h = refl

alike : (files : List File) (i j : ℕ) (f g : File) (d e : Declaration) → AreFiles files → Join (map source_of files) → i < j → slice_get files i ≡ Some f → slice_get files j ≡ Some g
    → Within (declarations f) d → Within (declarations g) e → e.name ≡ d.name → AreAlike d e
alike files i j f g d e h k l a b w v n =
    let m = k.meet i j (variable_seen (used_names f) d) (variable_seen (used_names g) e) l
    (occurs_in_file files i f (variable_seen (used_names f) d) a (variable_seen_there f (file_of files i f h a) d w))
    (occurs_in_file files j g (variable_seen (used_names g) e) b (variable_seen_there g (file_of files j g h b) e v))
    (sym n) in
    record {
      length = same_length d.is_long e.is_long m.agree;
      once = not_true (both_numbers d.first e.first) (sym (may_meet_is d.first e.first (is_among (used_names f) d.name) (is_among (used_names g) e.name)) ∙ m.once);
    }

one_main : (files : List File) (i j : ℕ) (f g : File) (ss ts : List Statement) → AreFiles files → Join (map source_of files) → i < j
    → slice_get files i ≡ Some f → slice_get files j ≡ Some g → f.main ≡ Some ss → g.main ≡ Some ts → ⊥
one_main files i j f g ss ts h k l a b m n =
    let r = k.meet i j main_brief main_brief l
    (occurs_in_file files i f main_brief a (main_seen_there f (file_of files i f h a) ss m))
    (occurs_in_file files j g main_brief b (main_seen_there g (file_of files j g h b) ts n))
    refl in
    false_true r.once

-- Definitions

pub mere_defines : (r : Role) → IsMereRole r → defines r ≡ false
mere_defines Declares h = refl
mere_defines Uses h = refl
mere_defines DefinesCode h = absurd h
mere_defines DefinesData h = absurd h
mere_defines DefinesCommon h = absurd h

not_mere : (r : Role) → IsMereRole r → defines r ≡ true → ⊥
not_mere r h d = true_false (sym d ∙ mere_defines r h)

pub defines_is : (f : First) (used : Bool) → defines (shown (first_role f) used) ≡ defines_first f
defines_is first.Extern true = refl
defines_is first.Extern false = refl
defines_is first.Zero used = refl
defines_is (first.Number value) used = refl

find_main : (files : List File) (i : ℕ) (a : Occurrence) → AreFiles files → Owner files i a → a.name ≡ codes "main" → defines a.role ≡ true → HasMainAt files
find_main files i a h (OfSuite e w) n d = by (suite_of a w)
  where
    by : OfTheSuite a → HasMainAt files
    by (UsesMain g) = absurd (true_false (sym d ∙ ap (λ (o : Occurrence). defines o.role) g))
    by (HasCall s t r) = absurd (call_not_main a.name s n)
find_main files i a h (OfFile f e w) n d = by (seen_of f (file_of files i f h e) a w)
  where
    by : Seen f a → HasMainAt files
    by (SeenSystem s t r) = absurd (not_mere a.role r d)
    by (SeenVariable c v o) = absurd (not_main c.name (no_function files i f c h e v) (sym (ap (λ (o : Occurrence). o.name) o) ∙ n))
    by (SeenMain ss m o) = record { place = i; file = f; statements = ss; there = e; has = m }

find_definition : (files : List File) (i : ℕ) (a : Occurrence) (x : List ℕ) → AreFiles files → is_among functions x ≡ false → Owner files i a → a.name ≡ x → defines a.role ≡ true → HasDefinition files x
find_definition files i a x h v (OfSuite e w) n d = by (suite_of a w)
  where
    by : OfTheSuite a → HasDefinition files x
    by (UsesMain g) = absurd (true_false (sym d ∙ ap (λ (o : Occurrence). defines o.role) g))
    by (HasCall s t r) = absurd (not_call a.name x s v n)
find_definition files i a x h v (OfFile f e w) n d = by (seen_of f (file_of files i f h e) a w)
  where
    by : Seen f a → HasDefinition files x
    by (SeenSystem s t r) = absurd (not_mere a.role r d)
    by (SeenVariable c g o) = record {
      place = i;
      file = f;
      declaration = c;
      there = e;
      declared = g;
      named = sym (ap (λ (o : Occurrence). o.name) o) ∙ n;
      defining = sym (defines_is c.first (is_among (used_names f) c.name)) ∙ sym (ap (λ (o : Occurrence). defines o.role) o) ∙ d;
    }
    by (SeenMain ss m o) = absurd (not_main x v (sym n ∙ ap (λ (o : Occurrence). o.name) o))

resolved : (files : List File) (i : ℕ) (f : File) (d : Declaration) → AreFiles files → Join (map source_of files) → slice_get files i ≡ Some f → Within (declarations f) d
    → d.first ≡ first.Extern → is_among (used_names f) d.name ≡ true → HasDefinition files d.name
resolved files i f d h k a w e u =
    let r = k.resolved i (variable_seen (used_names f) d)
    (occurs_in_file files i f (variable_seen (used_names f) d) a (variable_seen_there f (file_of files i f h a) d w))
    (ap (λ g. shown (first_role g) (is_among (used_names f) d.name)) e ∙ ap (shown Declares) u) in
    find_definition files r.0 r.1 d.name h (no_function files i f d h a w) (owner_of files r.0 r.1 r.2) r.3 r.4

-- All together

pub fit_from_sources : (files : List File) → All (λ f. IsFile (items_of f)) files → Join (map source_of files) → Fit files
fit_from_sources files h k = record {
  one_main = λ i j f g ss ts l a b m n. one_main files i j f g ss ts h k l a b m n;
  alike = λ i j f g d e l a b w v n. alike files i j f g d e h k l a b w v n;
  main = let r = k.main_defined in find_main files r.0 r.1 h (owner_of files r.0 r.1 r.2) r.3 r.4;
  resolved = λ i f d a w e u. resolved files i f d h k a w e u;
}
