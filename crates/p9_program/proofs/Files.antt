-- Files whose bytes translate modules.
use Rattle.std.proofs.Common.{◌≡◌, ℕ, zero, suc, Some, List, [], ◌∷◌, length, slice_get, refl, ap, ◌∙◌, subst, arith}
use Rattle.p9_abs.specs.declared.modules.AModule.{AModule}
use Rattle.p9_object.specs.Fields.{spelling}
use Rattle.p9_object.specs.Laws.{IsObject}
use Rattle.p9_lang.specs.Modules.{Source}
use Rattle.p9_sim.specs.Translating.{IsTranslation, Translates}
use Rattle.p9_program.specs.Linking.{AreTranslations}
use Rattle.p9_program.specs.Whole.{FilesAreTranslated}
use Rattle.p9_program.proofs.Lists.{some-same, none-some}

record Read (modules : List Source) (files : List (List ℕ)) : Type 0 where
  outs : List AModule
  are : AreTranslations modules outs
  spelled : (i : ℕ) (out : AModule) → slice_get outs i ≡ Some out → slice_get files i ≡ Some (spelling out)

read-files : (modules : List Source) (files : List (List ℕ)) → length files ≡ length modules
    → ((i : ℕ) (source : Source) (bytes : List ℕ) → slice_get modules i ≡ Some source → slice_get files i ≡ Some bytes → Translates source bytes) → Read modules files
read-files [] [] c h = record { outs = []; are = record { count = refl; objects = λ i out e. absurd (none-some out e); each = λ i m out e f. absurd (none-some m e) }; spelled = λ i out e. absurd (none-some out e) }
read-files [] (f ∷ files) c h = absurd (omega (arith, c))
read-files (m ∷ modules) [] c h = absurd (omega (arith, c))
read-files (m ∷ modules) (f ∷ files) c h = more (h 0 m f refl refl) (read-files modules files (omega (arith, c)) (λ i n b e g. h (suc i) n b e g))
  where
    more : Translates m f → Read modules files → Read (m ∷ modules) (f ∷ files)
    more t r = record { outs = t.0 ∷ r.outs; are = record { count = ap suc r.are.count; objects = object; each = each }; spelled = spelled }
      where
        object : (i : ℕ) (out : AModule) → slice_get (t.0 ∷ r.outs) i ≡ Some out → IsObject out
        object zero out e = subst IsObject (some-same t.0 out e) t.1
        object (suc i) out e = r.are.objects i out e

        each : (i : ℕ) (source : Source) (out : AModule) → slice_get (m ∷ modules) i ≡ Some source → slice_get (t.0 ∷ r.outs) i ≡ Some out → IsTranslation source out
        each zero source out e g = subst (λ s. IsTranslation s out) (some-same m source e) (subst (IsTranslation m) (some-same t.0 out g) t.3)
        each (suc i) source out e g = r.are.each i source out e g

        spelled : (i : ℕ) (out : AModule) → slice_get (t.0 ∷ r.outs) i ≡ Some out → slice_get (f ∷ files) i ≡ Some (spelling out)
        spelled zero out e = ap Some (t.2 ∙ ap spelling (some-same t.0 out e))
        spelled (suc i) out e = r.spelled i out e

pub files_are_translated : FilesAreTranslated
files_are_translated modules files c h = let r = read-files modules files c h in (r.outs, r.are, r.spelled)
