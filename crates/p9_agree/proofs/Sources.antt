-- How names occur in the C modules of files, and in the suite's own module.
use Rattle.std.proofs.Common.{◌≡◌, ℕ, zero, suc, true, false, List, [], ◌∷◌, map, length, Some, None, Contains, refl, sym, ap, ◌∙◌, subst, codes}
use Rattle.std.specs.Prelude.{slice_get}
use Rattle.p9_first.specs.Form.{same_name, is_among, functions}
use Rattle.p9_first.specs.Modules.{system_names, system_type}
use Rattle.p9_form.specs.declared.file.File.{File}
use Rattle.p9_form.specs.Items.{source_of}
use Rattle.p9_share.proofs.Within.{Within, within_none, contains_within}
use Rattle.p9_first.specs.Joins.{Uses, DefinesCode, Occurrence, shared, all_shared, system_module, Occurs}
use Rattle.p9_agree.proofs.Fit.{true_false, not_function}
use Rattle.p9_agree.proofs.Seen.{within_contained}

abbrev pub sources : List File → List (List Occurrence)
sources files = all_shared (map source_of files)

-- Which module a place is

pub data Owner (files : List File) (i : ℕ) (a : Occurrence) : Type 0 where
  OfFile : (f : File) → slice_get files i ≡ Some f → Within (shared (source_of f)) a → Owner files i a
  OfSuite : i ≡ length files → Within system_module a → Owner files i a

nothing : {X : Type 0} (a : X) → Contains [] a → ⊥
nothing a h = within_none a (within_contained [] a h)

pub owner_of : (files : List File) (i : ℕ) (a : Occurrence) → Occurs (sources files) i a → Owner files i a
owner_of [] zero a h = OfSuite refl (within_contained system_module a h)
owner_of [] (suc zero) a h = absurd (nothing a h)
owner_of [] (suc (suc i)) a h = absurd (nothing a h)
owner_of (f ∷ files) zero a h = OfFile f refl (within_contained (shared (source_of f)) a h)
owner_of (f ∷ files) (suc i) a h = later (owner_of files i a h)
  where
    later : Owner files i a → Owner (f ∷ files) (suc i) a
    later (OfFile g e w) = OfFile g e w
    later (OfSuite e w) = OfSuite (ap suc e) w

some_is : {X : Type 0} {x y : X} → Some x ≡ Some y → x ≡ y
some_is h = cc

none_not : {X : Type 0} {x : X} → None ≡ Some x → ⊥
none_not h = cc

pub occurs_in_file : (files : List File) (i : ℕ) (f : File) (a : Occurrence) → slice_get files i ≡ Some f → Within (shared (source_of f)) a → Occurs (sources files) i a
occurs_in_file [] i f a e w = absurd (within_none f (i, e))
occurs_in_file (g ∷ files) zero f a e w = subst (λ x. Contains (shared (source_of x)) a) (sym (some_is e)) (contains_within (shared (source_of f)) a w)
occurs_in_file (g ∷ files) (suc i) f a e w = occurs_in_file files i f a e w

pub occurs_in_suite : (files : List File) (a : Occurrence) → Within system_module a → Occurs (sources files) (length files) a
occurs_in_suite [] a w = contains_within system_module a w
occurs_in_suite (f ∷ files) a w = occurs_in_suite files a w

-- The suite's own module

pub data OfTheSuite (a : Occurrence) : Type 0 where
  UsesMain : a ≡ record { name = codes "main"; type = None; role = Uses } → OfTheSuite a
  HasCall : Within system_names a.name → a.type ≡ Some (system_type a.name) → a.role ≡ DefinesCode → OfTheSuite a

abbrev used_main : Occurrence
used_main = record { name = codes "main"; type = None; role = Uses }

pub suite_of : (a : Occurrence) → Within system_module a → OfTheSuite a
suite_of a w = go w.0 w.1
  where
    go : (k : ℕ) → slice_get system_module k ≡ Some a → OfTheSuite a
    go zero e = UsesMain (sym (some_is e))
    go (suc zero) e = subst OfTheSuite (some_is e) (HasCall (0, refl) refl refl)
    go (suc (suc zero)) e = subst OfTheSuite (some_is e) (HasCall (1, refl) refl refl)
    go (suc (suc (suc zero))) e = subst OfTheSuite (some_is e) (HasCall (2, refl) refl refl)
    go (suc (suc (suc (suc k)))) e = absurd (none_not e)

-- each system call is defined there
abbrev call_occurrence : List ℕ → Occurrence
call_occurrence x = record { name = x; type = Some (system_type x); role = DefinesCode }

pub call_there : (x : List ℕ) → Within system_names x → Within system_module (record { name = x; type = Some (system_type x); role = DefinesCode })
call_there x w = go w.0 w.1
  where
    go : (k : ℕ) → slice_get system_names k ≡ Some x → Within system_module (call_occurrence x)
    go zero e = subst (λ y. Within system_module (call_occurrence y)) (some_is e) (1, refl)
    go (suc zero) e = subst (λ y. Within system_module (call_occurrence y)) (some_is e) (2, refl)
    go (suc (suc zero)) e = subst (λ y. Within system_module (call_occurrence y)) (some_is e) (3, refl)
    go (suc (suc (suc k))) e = absurd (none_not e)

-- its names are functions', and none is `main`
pub call_name : (x : List ℕ) → Within system_names x → (is_among functions x ≡ true) × (same_name x (codes "main") ≡ false)
call_name x w = go w.0 w.1
  where
    Fine : List ℕ → Type 0
    Fine y = (is_among functions y ≡ true) × (same_name y (codes "main") ≡ false)

    go : (k : ℕ) → slice_get system_names k ≡ Some x → Fine x
    go zero e = subst Fine (some_is e) (refl, refl)
    go (suc zero) e = subst Fine (some_is e) (refl, refl)
    go (suc (suc zero)) e = subst Fine (some_is e) (refl, refl)
    go (suc (suc (suc k))) e = absurd (none_not e)

-- so it is neither a variable's name nor `main`
pub not_call : (x y : List ℕ) → Within system_names x → is_among functions y ≡ false → x ≡ y → ⊥
not_call x y w h e = not_function y x h (call_name x w).0 (sym e)

pub call_not_main : (x : List ℕ) → Within system_names x → x ≡ codes "main" → ⊥
call_not_main x w e = true_false (sym (ap (λ y. same_name y (codes "main")) e) ∙ (call_name x w).1)

pub not_main : (x : List ℕ) → is_among functions x ≡ false → x ≡ codes "main" → ⊥
not_main x h e = not_function x (codes "main") h refl e
