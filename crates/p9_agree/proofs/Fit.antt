-- When files fit together, in the terms of the files alone: both notions of joining come to it.
use Rattle.std.proofs.Common.{◌≡◌, ◌<◌, ℕ, Bool, true, false, List, Some, refl, sym, ap, ◌∙◌}
use Rattle.std.specs.Prelude.{slice_get}
use Rattle.p9_first.specs.Form.{is_among, functions}
use Rattle.p9_form.specs.declared.file.Statement.{Statement}
use Rattle.p9_form.specs.declared.file.First.{First}
use Rattle.p9_form.specs.declared.file.First.TheVariants as first
use Rattle.p9_form.specs.declared.file.Declaration.{Declaration}
use Rattle.p9_form.specs.declared.file.File.{File}
use Rattle.p9_form.specs.Sharing.{declarations}
use Rattle.p9_share.specs.Symbols.{used_names}
use Rattle.p9_share.proofs.Within.{Within}

abbrev pub defines_first : First → Bool
defines_first first.Extern = false
defines_first first.Zero = true
defines_first (first.Number value) = true

abbrev pub is_number : First → Bool
is_number (first.Number value) = true
is_number _ = false

abbrev pub both_numbers : First → First → Bool
both_numbers (first.Number value) f = is_number f
both_numbers _ f = false

-- two declarations of one name, in two files
pub record AreAlike (d e : Declaration) : Type 0 where
  pub length : d.is_long ≡ e.is_long
  pub once : both_numbers d.first e.first ≡ false

-- where `main` is
pub record HasMainAt (files : List File) : Type 0 where
  pub place : ℕ
  pub file : File
  pub statements : List Statement
  pub there : slice_get files place ≡ Some file
  pub has : file.main ≡ Some statements

-- where a variable is defined
pub record HasDefinition (files : List File) (x : List ℕ) : Type 0 where
  pub place : ℕ
  pub file : File
  pub declaration : Declaration
  pub there : slice_get files place ≡ Some file
  pub declared : Within (declarations file) declaration
  pub named : declaration.name ≡ x
  pub defining : defines_first declaration.first ≡ true

pub record Fit (files : List File) : Type 0 where
  pub one_main : (i j : ℕ) (f g : File) (ss ts : List Statement) → i < j → slice_get files i ≡ Some f → slice_get files j ≡ Some g
      → f.main ≡ Some ss → g.main ≡ Some ts → ⊥
  pub alike : (i j : ℕ) (f g : File) (d e : Declaration) → i < j → slice_get files i ≡ Some f → slice_get files j ≡ Some g
      → Within (declarations f) d → Within (declarations g) e → e.name ≡ d.name → AreAlike d e
  pub main : HasMainAt files
  pub resolved : (i : ℕ) (f : File) (d : Declaration) → slice_get files i ≡ Some f → Within (declarations f) d
      → d.first ≡ first.Extern → is_among (used_names f) d.name ≡ true → HasDefinition files d.name

-- Contradictions

pub true_false : true ≡ false → ⊥
true_false h = cc

pub false_true : false ≡ true → ⊥
false_true h = cc

pub never_true : (b : Bool) → (b ≡ true → ⊥) → b ≡ false
never_true true h = absurd (h refl)
never_true false h = refl

-- a variable's name is no function's
pub not_function : (x y : List ℕ) → is_among functions x ≡ false → is_among functions y ≡ true → x ≡ y → ⊥
not_function x y h g e = true_false (sym g ∙ ap (is_among functions) (sym e) ∙ h)
