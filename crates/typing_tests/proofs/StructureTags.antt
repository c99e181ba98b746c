-- What the tests' structures are.
use Rattle.std.proofs.Common.{◌≡◌, ℕ, zero, suc, List, [], ◌∷◌, ◌++◌, false, Some, codes, sym, ap, ◌∙◌, subst, arith}
use Rattle.p9_lang.specs.declared.types.Member.{Member}
use Rattle.p9_lang.specs.declared.types.Tag.{Tag}
use Rattle.p9_lang.specs.declared.types.CType.TheVariants as ctype
use Rattle.p9_lang.specs.Types.{members_of, tag_of, tags_of, type_of}
use Rattle.p9_lang.specs.LayoutExamples.{of, structure}
use Rattle.p9_lang.specs.TagRules.{NoneContainsItself}
use Rattle.p9_types.proofs.Shapes.{type_of_int}
use Rattle.typing_tests.specs.Structures.{complete_tag, incomplete_tag, example_tags}

pub example_tags_are : (none a b : List Tag) (s t : Tag) → none ≡ [] → a ≡ none ++ s ∷ [] → b ≡ a ++ t ∷ []
    → tag_of s ≡ complete_tag → tag_of t ≡ incomplete_tag → tags_of b ≡ example_tags
example_tags_are none a b s t e f g h i =
    ap tags_of (g ∙ ap (λ l. l ++ t ∷ []) (f ∙ ap (λ l. l ++ s ∷ []) e)) ∙ ap (λ x. x ∷ tag_of t ∷ []) h ∙ ap (λ x. complete_tag ∷ x ∷ []) i

example_ends : NoneContainsItself example_tags
example_ends zero lt = (tt, tt)
example_ends (suc zero) lt = tt
example_ends (suc (suc i)) lt = absurd (omega arith)

pub ends : (ts : List Tag) → tags_of ts ≡ example_tags → NoneContainsItself (tags_of ts)
ends ts e = subst NoneContainsItself (sym e) example_ends

pub complete_tag_is : (name k : List ℕ) (none ms : List Member) → name ≡ codes "S" → k ≡ codes "k" → none ≡ [] → ms ≡ none ++ record { name = k; ty = ctype.Int } ∷ []
    → tag_of (record { is_union = false; name = name; members = Some ms; marked = false }) ≡ complete_tag
complete_tag_is name k none ms e f g h =
    ap (λ y. record { is_union = false; name = y; members = Some (members_of ms); is_marked = false }) e
    ∙ ap (λ l. structure (codes "S") (members_of l)) (h ∙ ap (λ l. l ++ record { name = k; ty = ctype.Int } ∷ []) g)
    ∙ ap (λ y. structure (codes "S") (of y (type_of ctype.Int) ∷ [])) f
    ∙ ap (λ t. structure (codes "S") (of (codes "k") t ∷ [])) type_of_int
