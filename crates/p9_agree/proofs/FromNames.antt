-- Files whose modules join by name fit together.
use Rattle.std.proofs.Common.{◌≡◌, ◌<◌, ℕ, Bool, true, false, ◌||◌, List, map, Some, All, refl, sym, ap, ◌∙◌, subst, codes}
use Rattle.std.specs.Prelude.{slice_get}
use Rattle.p9_abs.specs.declared.modules.Symbol.{Symbol}
use Rattle.p9_abs.specs.declared.modules.Body.TheVariants.{Used}
use Rattle.p9_abs.specs.Modules.{size_of, is_definition}
use Rattle.p9_first.specs.Form.{same_name, is_among, functions, IsFile}
use Rattle.p9_form.specs.declared.file.Statement.{Statement}
use Rattle.p9_form.specs.declared.file.First.{First}
use Rattle.p9_form.specs.declared.file.First.TheVariants as first
use Rattle.p9_form.specs.declared.file.Declaration.{Declaration}
use Rattle.p9_form.specs.declared.file.File.{File}
use Rattle.p9_form.specs.Items.{items_of}
use Rattle.p9_form.specs.Sharing.{declarations}
use Rattle.p9_form.proofs.Formed.{file_fits}
use Rattle.p9_names.specs.declared.rules.Rule.{Rule}
use Rattle.p9_names.specs.declared.rules.Rule.TheVariants.{Once, Agreement}
use Rattle.p9_abs.specs.Names.{Occurs}
use Rattle.p9_names.specs.Linking.{IsKept, is_use}
use Rattle.p9_names.specs.Rules.{breaks, clash, signatures_differ, sizes_differ}
use Rattle.p9_abs.specs.BuiltIn.{linked}
use Rattle.p9_names.specs.Answers.{Joins}
use Rattle.p9_share.specs.Symbols.{module_of, symbols_of, signature_of, body_of, variable_symbol, main_symbol, used_names}
use Rattle.p9_share.proofs.Within.{Within, all_within}
use Rattle.p9_share.proofs.Joined.{place_of, module_at, occurs_there, variable_there, main_there, Origin, OfSystem, OfVariable, OfMain, origin_of, From, OfFile, OfBuiltIn, symbol_from, builtin_names, variables_of, used_defines}
use Rattle.p9_agree.proofs.Fit.{defines_first, both_numbers, AreAlike, HasMainAt, HasDefinition, Fit, true_false, never_true, not_function}

abbrev AreFiles : List File → Type 0
AreFiles files = All (λ f. IsFile (items_of f)) files

-- a variable's name is no function's
pub no_function : (files : List File) (i : ℕ) (f : File) (d : Declaration) → All (λ f. IsFile (items_of f)) files → slice_get files i ≡ Some f → Within (declarations f) d → is_among functions d.name ≡ false
no_function files i f d h a w = (variables_of f (file_fits f (all_within (λ f. IsFile (items_of f)) files f h (i, a))) d w).other

-- Two declarations

pub clash_is : (f g : First) (u v : Bool) → clash (body_of f u) (body_of g v) ≡ both_numbers f g
clash_is first.Extern first.Extern true true = refl
clash_is first.Extern first.Extern true false = refl
clash_is first.Extern first.Extern false true = refl
clash_is first.Extern first.Extern false false = refl
clash_is first.Extern first.Zero true v = refl
clash_is first.Extern first.Zero false v = refl
clash_is first.Extern (first.Number value) true v = refl
clash_is first.Extern (first.Number value) false v = refl
clash_is first.Zero first.Extern u true = refl
clash_is first.Zero first.Extern u false = refl
clash_is first.Zero first.Zero u v = refl
clash_is first.Zero (first.Number value) u v = refl
clash_is (first.Number value) first.Extern u true = refl
clash_is (first.Number value) first.Extern u false = refl
clash_is (first.Number value) first.Zero u v = refl
clash_is (first.Number value) (first.Number other) u v = refl

same_length : (a b : Bool) (c : Bool) → ((signatures_differ (signature_of a) (signature_of b) || c) ≡ true → ⊥) → a ≡ b
same_length true true c h = refl
same_length true false c h = absurd (h refl)
same_length false true c h = absurd (h refl)
same_length false false c h = refl

unbroken : (files : List File) (rule : Rule) (i j : ℕ) (f g : File) (d e : Declaration) → IsKept rule (linked (map module_of files)) → i < j → slice_get files i ≡ Some f → slice_get files j ≡ Some g
    → Within (declarations f) d → Within (declarations g) e → e.name ≡ d.name → breaks rule (variable_symbol (used_names f) d) (variable_symbol (used_names g) e) ≡ true → ⊥
unbroken files rule i j f g d e kept l a b w v n broken =
    let x = variable_there f d w in
    let y = variable_there g e v in
    kept d.name (place_of i x.0) (place_of j y.0) (record {
      early = variable_symbol (used_names f) d;
      late = variable_symbol (used_names g) e;
      early_occurs = occurs_there files i x.0 f (variable_symbol (used_names f) d) a x.1 refl;
      late_occurs = subst (λ m. Occurs (linked (map module_of files)) m (place_of j y.0) (variable_symbol (used_names g) e)) n (occurs_there files j y.0 g (variable_symbol (used_names g) e) b y.1 refl);
      ordered = l;
      broken = broken;
    })

alike : (files : List File) (i j : ℕ) (f g : File) (d e : Declaration) → Joins (linked (map module_of files)) → i < j → slice_get files i ≡ Some f → slice_get files j ≡ Some g
    → Within (declarations f) d → Within (declarations g) e → e.name ≡ d.name → AreAlike d e
alike files i j f g d e h l a b w v n = record {
  length = same_length d.is_long e.is_long (sizes_differ (size_of (variable_symbol (used_names f) d).body) (size_of (variable_symbol (used_names g) e).body))
      (unbroken files Agreement i j f g d e h.agree l a b w v n);
  once = never_true (both_numbers d.first e.first)
      (λ t. unbroken files Once i j f g d e h.once l a b w v n (clash_is d.first e.first (is_among (used_names f) d.name) (is_among (used_names g) e.name) ∙ t));
}

-- `main`

one_main : (files : List File) (i j : ℕ) (f g : File) (ss ts : List Statement) → IsKept Once (linked (map module_of files)) → i < j
    → slice_get files i ≡ Some f → slice_get files j ≡ Some g → f.main ≡ Some ss → g.main ≡ Some ts → ⊥
one_main files i j f g ss ts kept l a b m n =
    let x = main_there f ss m in
    let y = main_there g ts n in
    kept (codes "main") (place_of i x.0) (place_of j y.0) (record {
      early = main_symbol;
      late = main_symbol;
      early_occurs = occurs_there files i x.0 f main_symbol a x.1 refl;
      late_occurs = occurs_there files j y.0 g main_symbol b y.1 refl;
      ordered = l;
      broken = refl;
    })

find_main : (files : List File) (s : Symbol) → AreFiles files → From files s → s.local ≡ false → is_definition s.body ≡ true → s.name ≡ codes "main" → HasMainAt files
find_main files s h (OfBuiltIn w) l d n =
    let r = builtin_names s w l d in absurd (true_false (sym (ap (λ x. same_name x (codes "main")) n) ∙ r.1))
find_main files s h (OfFile i f e w) l d n = by (origin_of f s w)
  where
    by : Origin f s → HasMainAt files
    by (OfSystem u) = absurd (used_defines s u d)
    by (OfVariable c v o) =
        absurd (not_function c.name (codes "main") (no_function files i f c h e v) refl (ap (λ (t : Symbol). t.name) (sym o) ∙ n))
    by (OfMain ss m o) = record { place = i; file = f; statements = ss; there = e; has = m }

-- Uses

pub definition_is : (f : First) (used : Bool) → is_definition (body_of f used) ≡ defines_first f
definition_is first.Extern true = refl
definition_is first.Extern false = refl
definition_is first.Zero used = refl
definition_is (first.Number value) used = refl

find_definition : (files : List File) (s : Symbol) (x : List ℕ) → AreFiles files → is_among functions x ≡ false → From files s → s.local ≡ false → is_definition s.body ≡ true → s.name ≡ x → HasDefinition files x
find_definition files s x h v (OfBuiltIn w) l d n = absurd (not_function x s.name v (builtin_names s w l d).0 (sym n))
find_definition files s x h v (OfFile i f e w) l d n = by (origin_of f s w)
  where
    by : Origin f s → HasDefinition files x
    by (OfSystem u) = absurd (used_defines s u d)
    by (OfVariable c g o) = record {
      place = i;
      file = f;
      declaration = c;
      there = e;
      declared = g;
      named = ap (λ (t : Symbol). t.name) (sym o) ∙ n;
      defining = sym (definition_is c.first (is_among (used_names f) c.name)) ∙ ap (λ (t : Symbol). is_definition t.body) (sym o) ∙ d;
    }
    by (OfMain ss m o) = absurd (not_function x (codes "main") v refl (sym n ∙ ap (λ (t : Symbol). t.name) o))

resolved : (files : List File) (i : ℕ) (f : File) (d : Declaration) → AreFiles files → Joins (linked (map module_of files)) → slice_get files i ≡ Some f → Within (declarations f) d
    → d.first ≡ first.Extern → is_among (used_names f) d.name ≡ true → HasDefinition files d.name
resolved files i f d h j a w e u =
    let k = variable_there f d w in
    let b : (variable_symbol (used_names f) d).body ≡ Used = ap (λ g. body_of g (is_among (used_names f) d.name)) e ∙ ap (λ c. body_of first.Extern c) u in
    let r = j.resolved d.name (place_of i k.0) (record {
      user = module_of f;
      symbol = variable_symbol (used_names f) d;
      number = module_at files i f a;
      occurs = occurs_there files i k.0 f (variable_symbol (used_names f) d) a k.1 refl;
      used = ap (is_use (symbols_of f) k.0) b;
    }) in
    find_definition files r.1.symbol d.name h (no_function files i f d h a w) (symbol_from files r.0 r.1.symbol r.1.occurs.stands) r.1.occurs.global r.1.defining r.1.occurs.named

-- All together

pub fit_from_names : (files : List File) → All (λ f. IsFile (items_of f)) files → Joins (linked (map module_of files)) → Fit files
fit_from_names files h j = record {
  one_main = λ i k f g ss ts l a b m n. one_main files i k f g ss ts j.once l a b m n;
  alike = λ i k f g d e l a b w v n. alike files i k f g d e j l a b w v n;
  main =
      let s = j.main.first.defines.symbol in
      let o = j.main.first.defines.occurs in
      find_main files s h (symbol_from files j.main.place s o.stands) o.global j.main.first.defines.defining o.named;
  resolved = λ i f d a w e u. resolved files i f d h j a w e u;
}
