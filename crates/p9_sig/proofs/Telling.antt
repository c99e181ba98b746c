-- Types have one text exactly where they agree to every depth.
use Rattle.std.proofs.Common.{◌≡◌, ◌⊎◌, inl, inr, ℕ, true, List, [], ◌++◌, Option, Some, None, refl, sym, ap, ◌∙◌}
use Rattle.p9_lang.specs.Names.{is_among}
use Rattle.p9_lang.specs.Types.{TypeTree, Tags}
use Rattle.p9_lang.specs.Agreement.{Agree}
use Rattle.p9_lang.specs.TagRules.{AreValid, ArePlainFor}
use Rattle.p9_sig.specs.Parts.{Written}
use Rattle.p9_sig.specs.Texts.{type_text, tag_text, deepest, text_in}
use Rattle.p9_sig.specs.Laws.{TextsTellTypes}
use Rattle.p9_sig.proofs.Same.{agreed_same}
use Rattle.p9_sig.proofs.Reading.{Link, agree_all}
use Rattle.p9_sig.proofs.Coupled.{coupled}
use Rattle.p9_sig.proofs.CoupledTags.{all_tags}
use Rattle.p9_sig.proofs.Reaching.{Reached, reached_first, names_differ, all_reached}

record HasText (o : Option Written) (text : List ℕ) : Type 0 where
  pub written : Written
  pub is : o ≡ Some written
  pub text_is : written.text ≡ text

text_of : (o : Option Written) (text : List ℕ) → text_in o ≡ Some text → HasText o text
text_of None text e = cc
text_of (Some w) text e = record { written = w; is = refl; text_is = cc }

module _ (A B : Tags) (t u : TypeTree) (v w : Written) (e : type_text (tag_text (deepest A) A) t [] ≡ Some v) (f : type_text (tag_text (deepest B) B) u [] ≡ Some w) where
  one_text_agrees : AreValid A → AreValid B → ArePlainFor A t → ArePlainFor B u → v.text ≡ w.text → Agree A B t u
  one_text_agrees va vb pa pb h d =
      let z = coupled A B (Reached A t) (Reached B u) (deepest A) (deepest B)
      (all_tags A B (Reached A t) (Reached B u) (all_reached A t va) (all_reached B u vb) (deepest A) (deepest B))
      t u (reached_first A t) (reached_first B u) [] v w [] [] e f (ap (λ l. l ++ []) h) in
      agree_all A B (Reached A t) (Reached B u) v.met (names_differ A t pa) (names_differ B u pb)
      (λ x m. by x (z.reads.links v.met (λ y k. k) x m)) d (deepest A) t u (z.reads.alike v.met (λ y k. k))
    where
      by : (x : List ℕ) → (is_among [] x ≡ true) ⊎ Link A B (Reached A t) (Reached B u) v.met x → Link A B (Reached A t) (Reached B u) v.met x
      by x (inl p) = absurd (let q = p in cc)
      by x (inr l) = l

  agreed_have_one : Agree A B t u → v.text ≡ w.text
  agreed_have_one h = ap (λ q. q.text) (agreed_same (deepest A) (deepest B) A B t u h [] v w e f)

pub texts_tell_types : TextsTellTypes
texts_tell_types A t a va over e B u b pa vb over' pb f =
    let v = text_of (type_text (tag_text (deepest A) A) t []) a e in
    let w = text_of (type_text (tag_text (deepest B) B) u []) b f in (
      λ h. one_text_agrees A B t u v.written w.written v.is w.is va vb pa pb (v.text_is ∙ h ∙ sym w.text_is),
      λ h. sym v.text_is ∙ agreed_have_one A B t u v.written w.written v.is w.is h ∙ w.text_is,
    )
