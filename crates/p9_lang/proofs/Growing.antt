-- Structures keep their bodies where more structures and bodies come.
use Rattle.std.proofs.Common.{◌≡◌, ◌≤◌, ℕ, zero, suc, List, [], ◌∷◌, ◌++◌, length, length-append, slice_get, slice_set, Option, Some, None, refl, sym, ap, ◌∙◌, arith}
use Rattle.std.proofs.lemmas.List.{length-set}
use Rattle.p9_lang.specs.Types.{MemberTree, TagTree, Tags}
use Rattle.p9_lang.specs.Scopes.{with_body, or_else}
use Rattle.p9_lang.specs.Laws.{KeepsBodies}

pub record Grows (before after : Tags) : Type 0 where
  pub bodies : KeepsBodies before after
  pub count : length before ≤ length after

pub stays : (tags : Tags) → Grows tags tags
stays tags = record { bodies = λ i tag members e k. (tag, e, k, refl); count = omega arith }

pub then_grows : (a b c : Tags) → Grows a b → Grows b c → Grows a c
then_grows a b c f g =
    let m = f.count in
    let n = g.count in
    record {
      bodies = λ i tag members e k.
          let x = f.bodies i tag members e k in
          let y = g.bodies i x.0 members x.1 x.2 in
          (y.0, y.1, y.2, y.3 ∙ x.3);
      count = omega arith;
    }

pub append_get : (tags more : Tags) (i : ℕ) (tag : TagTree) → slice_get tags i ≡ Some tag → slice_get (tags ++ more) i ≡ Some tag
append_get [] more zero tag e = cc
append_get [] more (suc i) tag e = cc
append_get (t ∷ ts) more zero tag e = e
append_get (t ∷ ts) more (suc i) tag e = append_get ts more i tag e

pub appended_grows : (tags more : Tags) → Grows tags (tags ++ more)
appended_grows tags more =
    let n = length-append tags more in
    record { bodies = λ i tag members e k. (tag, append_get tags more i tag e, k, refl); count = omega arith }

set_get : (tags : Tags) (n : ℕ) (new : TagTree) (old : TagTree) → slice_get tags n ≡ Some old → (i : ℕ) (tag : TagTree) (members : List MemberTree)
    → slice_get tags i ≡ Some tag → tag.members ≡ Some members → new.members ≡ or_else old.members new.members → new.is_union ≡ old.is_union
    → (later : TagTree) × (slice_get (slice_set tags n new) i ≡ Some later) × (later.members ≡ Some members) × (later.is_union ≡ tag.is_union)
set_get [] zero new old h i tag members e k m u = cc
set_get [] (suc n) new old h i tag members e k m u = cc
set_get (t ∷ ts) zero new old h zero tag members e k m u =
    let a : t ≡ old = cc in
    let b : t ≡ tag = cc in
    let c : old.members ≡ Some members = ap (λ x. x.members) (sym a ∙ b) ∙ k in
    (new, refl, m ∙ ap (λ o. or_else o new.members) c, u ∙ ap (λ x. x.is_union) (sym a ∙ b))
set_get (t ∷ ts) zero new old h (suc i) tag members e k m u = (tag, e, k, refl)
set_get (t ∷ ts) (suc n) new old h zero tag members e k m u = (tag, e, k, refl)
set_get (t ∷ ts) (suc n) new old h (suc i) tag members e k m u = set_get ts n new old h i tag members e k m u

same_else : {A : Type 0} (o : Option A) (x : A) → or_else o (Some x) ≡ or_else o (or_else o (Some x))
same_else None x = refl
same_else (Some y) x = refl

pub body_grows : (tags : Tags) (n : ℕ) (members : List MemberTree) → Grows tags (with_body n members (slice_get tags n) tags)
body_grows tags n members = by (slice_get tags n) refl
  where
    by : (o : Option TagTree) → slice_get tags n ≡ o → Grows tags (with_body n members o tags)
    by None h = stays tags
    by (Some old) h =
        let new = record old { members = or_else old.members (Some members) } in
        let c = length-set tags n new in
        record {
          bodies = λ i tag ms e k. set_get tags n new old h i tag ms e k (same_else old.members members) refl;
          count = omega arith;
        }
