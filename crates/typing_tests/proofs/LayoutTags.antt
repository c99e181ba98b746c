-- What the tests' structures are.
use Rattle.std.proofs.Common.{◌≡◌, ℕ, zero, suc, Bool, false, List, [], ◌∷◌, ◌++◌, Some, codes, sym, ap, ◌∙◌, subst, arith}
use Rattle.p9_lang.specs.declared.types.Member.{Member}
use Rattle.p9_lang.specs.declared.types.Tag.{Tag}
use Rattle.p9_lang.specs.Types.{Char, Short, Int, MemberTree, member_of, members_of, tag_of, tags_of}
use Rattle.p9_lang.specs.LayoutExamples.{of}
use Rattle.p9_lang.specs.TagRules.{NoneContainsItself}
use Rattle.typing_tests.specs.Layouts.{sample_tag, sample, innermost_tag, enclosing_tag, nested}

pub sample_tag_is : (u : Bool) (name : List ℕ) (none a b d : List Member) (k m n : Member) → name ≡ [] → none ≡ []
    → a ≡ none ++ k ∷ [] → b ≡ a ++ m ∷ [] → d ≡ b ++ n ∷ []
    → member_of k ≡ of (codes "c") Char → member_of m ≡ of (codes "n") Int → member_of n ≡ of (codes "s") Short
    → tag_of (record { is_union = u; name = name; members = Some d; marked = false }) ≡ sample_tag u
sample_tag_is u name none a b d k m n x e f g h p q r =
    ap (λ y. record { is_union = u; name = y; members = Some (members_of d); is_marked = false }) x
    ∙ ap (λ l. record { is_union = u; name = []; members = Some (members_of l); is_marked = false })
    (h ∙ ap (λ l. l ++ n ∷ []) (g ∙ ap (λ l. l ++ m ∷ []) (f ∙ ap (λ l. l ++ k ∷ []) e)))
    ∙ ap (λ (y : MemberTree). record { is_union = u; name = []; members = Some (y ∷ member_of m ∷ member_of n ∷ []); is_marked = false }) p
    ∙ ap (λ (y : MemberTree). record { is_union = u; name = []; members = Some (of (codes "c") Char ∷ y ∷ member_of n ∷ []); is_marked = false }) q
    ∙ ap (λ (y : MemberTree). record { is_union = u; name = []; members = Some (of (codes "c") Char ∷ of (codes "n") Int ∷ y ∷ []); is_marked = false }) r

pub sample_is : (u : Bool) (none ts : List Tag) (t : Tag) → none ≡ [] → ts ≡ none ++ t ∷ [] → tag_of t ≡ sample_tag u → tags_of ts ≡ sample u
sample_is u none ts t e f g = ap tags_of (f ∙ ap (λ l. l ++ t ∷ []) e) ∙ ap (λ a. a ∷ []) g

sample_ends : (u : Bool) → NoneContainsItself (sample u)
sample_ends u zero lt = (tt, (tt, (tt, tt)))
sample_ends u (suc i) lt = absurd (omega arith)

pub ends_as_sample : (u : Bool) (ts : List Tag) → tags_of ts ≡ sample u → NoneContainsItself (tags_of ts)
ends_as_sample u ts e = subst NoneContainsItself (sym e) (sample_ends u)

pub one_member : (none a : List Member) (k : Member) (x : MemberTree) → none ≡ [] → a ≡ none ++ k ∷ [] → member_of k ≡ x → members_of a ≡ x ∷ []
one_member none a k x e f g = ap members_of (f ∙ ap (λ l. l ++ k ∷ []) e) ∙ ap (λ y. y ∷ []) g

pub two_members : (none a b : List Member) (k m : Member) (x y : MemberTree) → none ≡ [] → a ≡ none ++ k ∷ [] → b ≡ a ++ m ∷ [] → member_of k ≡ x → member_of m ≡ y
    → members_of b ≡ x ∷ y ∷ []
two_members none a b k m x y e f g h i =
    ap members_of (g ∙ ap (λ l. l ++ m ∷ []) (f ∙ ap (λ l. l ++ k ∷ []) e)) ∙ ap (λ z. z ∷ member_of m ∷ []) h ∙ ap (λ z. x ∷ z ∷ []) i

pub nested_is : (none a b d : List Tag) (s t u : Tag) → none ≡ [] → a ≡ none ++ s ∷ [] → b ≡ a ++ t ∷ [] → d ≡ b ++ u ∷ []
    → tag_of s ≡ innermost_tag → tag_of t ≡ innermost_tag → tag_of u ≡ enclosing_tag → tags_of d ≡ nested
nested_is none a b d s t u e f g h i j k =
    ap tags_of (h ∙ ap (λ l. l ++ u ∷ []) (g ∙ ap (λ l. l ++ t ∷ []) (f ∙ ap (λ l. l ++ s ∷ []) e)))
    ∙ ap (λ x. x ∷ tag_of t ∷ tag_of u ∷ []) i ∙ ap (λ x. innermost_tag ∷ x ∷ tag_of u ∷ []) j ∙ ap (λ x. innermost_tag ∷ innermost_tag ∷ x ∷ []) k

nested_ends : NoneContainsItself nested
nested_ends zero lt = (tt, tt)
nested_ends (suc zero) lt = (tt, tt)
nested_ends (suc (suc zero)) lt = ((tt, tt), ((tt, tt), tt))
nested_ends (suc (suc (suc i))) lt = absurd (omega arith)

pub ends_as_nested : (ts : List Tag) → tags_of ts ≡ nested → NoneContainsItself (tags_of ts)
ends_as_nested ts e = subst NoneContainsItself (sym e) nested_ends
