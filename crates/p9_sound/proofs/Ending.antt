-- What a file has in the end, by what is known while it is typed.
use Rattle.std.proofs.Common.{◌≡◌, ℕ, zero, suc, ◌+◌, Bool, true, false, if◌then◌else◌, List, [], ◌∷◌, ◌++◌, length, unwrap_or, slice_get, Some, refl, sym, ap, subst, ◌∙◌, arith}
use Rattle.p9_lang.specs.declared.tree.Kind.{Kind}
use Rattle.p9_lang.specs.Trees.{node, none, more, Syntax, SyntaxRow, nodes_of, nodes_of_row}
use Rattle.p9_lang.specs.Types.{TypeTree, Void, Meant, Nothing, MemberTree, TagTree, Tags}
use Rattle.p9_lang.specs.Scopes.{Known, TagName, with_node, innermost}
use Rattle.p9_lang.specs.Files.{Typing, typing_of, mark_tag, mark_tags}
use Rattle.p9_lang.proofs.Growing.{Grows, stays, then_grows}
use Rattle.p9_sound.specs.Labels.{IsShut, AreKnown, is_open}
use Rattle.p9_sound.proofs.Numbering.{get_last, kinds_after, kinds_after_row, length_last, Extends, shut_last, shut_later}
use Rattle.p9_sound.proofs.Staying.{Stays}

-- shut nodes keep their labels
pub record Later (kinds : List Kind) (s : Known) (t : Typing) : Type 0 where
  pub types : (n : ℕ) → IsShut kinds n → slice_get t.types n ≡ slice_get s.types n
  pub means : (n : ℕ) → IsShut kinds n → slice_get t.means n ≡ slice_get s.means n
  pub grows : Grows s.tags t.tags

pub before_later : (a b : List Kind) (s r : Known) (t : Typing) → Extends a b → Stays a s r → Later b r t → Later a s t
before_later a b s r t x h l = record {
  types = λ n i. l.types n (shut_later a b x n i) ∙ h.types n i;
  means = λ n i. l.means n (shut_later a b x n i) ∙ h.means n i;
  grows = then_grows s.tags r.tags t.tags h.grows l.grows;
}

-- NUMBERS of nodes

mutual
  pub length_after : (kinds : List Kind) (t : Syntax) → length (kinds_after kinds t) ≡ length kinds + nodes_of t
  length_after kinds (node k at parts) =
      let a = length_last (kinds_after_row kinds parts) k in
      let b = length_after_row kinds parts in
      a ∙ omega arith

  pub length_after_row : (kinds : List Kind) (ts : SyntaxRow) → length (kinds_after_row kinds ts) ≡ length kinds + nodes_of_row ts
  length_after_row kinds none = omega arith
  length_after_row kinds (more t ts) =
      let a = length_after kinds t in
      let b = length_after_row (kinds_after kinds t) ts in
      b ∙ omega arith

-- THE LABEL of a node, in the end

abbrev pub type_in : List TypeTree → ℕ → TypeTree
type_in types n = unwrap_or (slice_get types n) Void

abbrev pub meant_in : List Meant → ℕ → Meant
meant_in means n = unwrap_or (slice_get means n) Nothing

-- of the node that comes next
pub last_type : (kinds : List Kind) (k : Kind) (s r : Known) (t : Typing) (type : TypeTree) (means : Meant) → AreKnown kinds s → is_open k ≡ false
    → with_node type means s ≡ r → Later (kinds ++ k ∷ []) r t → type_in t.types (length kinds) ≡ type
last_type kinds k s r t type means h c e l =
    let there : slice_get (s.types ++ type ∷ []) (length kinds) ≡ Some type =
    subst (λ n. slice_get (s.types ++ type ∷ []) n ≡ Some type) h.types (get_last s.types type) in
    ap (λ o. unwrap_or o Void)
    (l.types (length kinds) (shut_last kinds k c) ∙ (ap (λ x. slice_get x.types (length kinds)) (sym e) ∙ there))

pub last_means : (kinds : List Kind) (k : Kind) (s r : Known) (t : Typing) (type : TypeTree) (means : Meant) → AreKnown kinds s → is_open k ≡ false
    → with_node type means s ≡ r → Later (kinds ++ k ∷ []) r t → meant_in t.means (length kinds) ≡ means
last_means kinds k s r t type means h c e l =
    let there : slice_get (s.means ++ means ∷ []) (length kinds) ≡ Some means =
    subst (λ n. slice_get (s.means ++ means ∷ []) n ≡ Some means) h.means (get_last s.means means) in
    ap (λ o. unwrap_or o Nothing)
    (l.means (length kinds) (shut_last kinds k c) ∙ (ap (λ x. slice_get x.means (length kinds)) (sym e) ∙ there))

-- MARKS change no body

mark_get : (n : ℕ) (tags : Tags) (i : ℕ) (tag : TagTree) (members : List MemberTree) → slice_get tags i ≡ Some tag → tag.members ≡ Some members
    → (later : TagTree) × (slice_get (mark_tag n tags) i ≡ Some later) × (later.members ≡ Some members) × (later.is_union ≡ tag.is_union)
mark_get zero [] zero tag members e h = cc
mark_get zero [] (suc i) tag members e h = cc
mark_get zero (t ∷ ts) zero tag members e h =
    let z : t ≡ tag = cc in
    (record t { is_marked = true }, refl, ap (λ x. x.members) z ∙ h, ap (λ x. x.is_union) z)
mark_get zero (t ∷ ts) (suc i) tag members e h = (tag, e, h, refl)
mark_get (suc n) [] zero tag members e h = cc
mark_get (suc n) [] (suc i) tag members e h = cc
mark_get (suc n) (t ∷ ts) zero tag members e h = (tag, e, h, refl)
mark_get (suc n) (t ∷ ts) (suc i) tag members e h = mark_get n ts i tag members e h

mark_length : (n : ℕ) (tags : Tags) → length (mark_tag n tags) ≡ length tags
mark_length zero [] = refl
mark_length zero (t ∷ ts) = refl
mark_length (suc n) [] = refl
mark_length (suc n) (t ∷ ts) = ap suc (mark_length n ts)

mark_grows : (n : ℕ) (tags : Tags) → Grows tags (mark_tag n tags)
mark_grows n tags = let c = mark_length n tags in record { bodies = mark_get n tags; count = omega arith }

marks_grow : (marks : List (List ℕ)) (names : List TagName) (tags : Tags) → Grows tags (mark_tags marks names tags)
marks_grow marks [] tags = stays tags
marks_grow marks (t ∷ ts) tags = by _ (marks_grow marks ts tags)
  where
    by : (b : Bool) → Grows tags (mark_tags marks ts tags)
        → Grows tags (if b then mark_tag t.number (mark_tags marks ts tags) else mark_tags marks ts tags)
    by true g = then_grows tags (mark_tags marks ts tags) (mark_tag t.number (mark_tags marks ts tags)) g (mark_grows t.number (mark_tags marks ts tags))
    by false g = g

pub file_later : (kinds : List Kind) (marks : List (List ℕ)) (s : Known) → Later kinds s (typing_of marks s)
file_later kinds marks s = record { types = λ n h. refl; means = λ n h. refl; grows = marks_grow marks (innermost s.tag_names) s.tags }
