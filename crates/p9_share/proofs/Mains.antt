-- One of the files has `main`.
use Rattle.std.proofs.Common.{◌≡◌, ℕ, zero, suc, List, [], ◌∷◌, ◌++◌, Option, Some, None, refl, sym, ap, ◌∙◌, arith}
use Rattle.std.specs.Prelude.{slice_get}
use Rattle.p9_form.specs.declared.file.Statement.{Statement}
use Rattle.p9_form.specs.declared.file.File.{File}
use Rattle.p9_form.specs.Sharing.{main_in, mains}

main_none : (f : File) → f.main ≡ None → main_in f ≡ []
main_none f e = ap (λ m. main_in (record f { main = m })) e

main_some : (f : File) (ss : List Statement) → f.main ≡ Some ss → main_in f ≡ ss ∷ []
main_some f ss e = ap (λ m. main_in (record f { main = m })) e

pub no_mains : (files : List File) → ((j : ℕ) (g : File) (ss : List Statement) → slice_get files j ≡ Some g → g.main ≡ Some ss → ⊥) → mains files ≡ []
no_mains [] h = refl
no_mains (f ∷ files) h = by f.main refl (no_mains files (λ j g ss e m. h (suc j) g ss e m))
  where
    by : (m : Option (List Statement)) → f.main ≡ m → mains files ≡ [] → main_in f ++ mains files ≡ []
    by None e r = ap (λ l. l ++ mains files) (main_none f e) ∙ r
    by (Some ss) e r = absurd (h 0 f ss refl e)

zero_not : (n : ℕ) → zero ≡ suc n → ⊥
zero_not n h = omega (arith, h)

some_file : {f g : File} → Some f ≡ Some g → f ≡ g
some_file h = cc

pub one_main_at : (files : List File) (i : ℕ) (f : File) (ss : List Statement) → slice_get files i ≡ Some f → f.main ≡ Some ss
    → ((j : ℕ) (g : File) (ts : List Statement) → slice_get files j ≡ Some g → g.main ≡ Some ts → j ≡ i)
    → mains files ≡ ss ∷ []
one_main_at [] zero f ss e m only = cc
one_main_at [] (suc i) f ss e m only = cc
one_main_at (g ∷ files) zero f ss e m only =
    ap (λ l. l ++ mains files) (main_some g ss (ap (λ (x : File). x.main) (some_file e) ∙ m))
    ∙ ap (λ l. ss ∷ l) (no_mains files (λ j h ts d n. zero_not j (sym (only (suc j) h ts d n))))
one_main_at (g ∷ files) (suc i) f ss e m only =
    by g.main refl (one_main_at files i f ss e m (λ j h ts d n. let o = only (suc j) h ts d n in omega (arith, o)))
  where
    by : (o : Option (List Statement)) → g.main ≡ o → mains files ≡ ss ∷ [] → main_in g ++ mains files ≡ ss ∷ []
    by None d r = ap (λ l. l ++ mains files) (main_none g d) ∙ r
    by (Some ts) d r = absurd (zero_not i (only 0 g ts refl d))
