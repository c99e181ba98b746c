-- What the tests' types and structures are.
use Rattle.std.proofs.Common.{◌≡◌, ◌<◌, ℕ, zero, suc, List, [], ◌∷◌, ◌++◌, Some, false, codes, refl, sym, ap, ◌∙◌, subst, arith}
use Rattle.p9_lang.specs.declared.types.CType.{CType}
use Rattle.p9_lang.specs.declared.types.CType.TheVariants as ctype
use Rattle.p9_lang.specs.declared.types.Member.{Member}
use Rattle.p9_lang.specs.declared.types.Tag.{Tag}
use Rattle.p9_lang.specs.Types.{Void, Int, Pointer, Tagged, type_of, types_of, type_row, members_of, tag_of, tags_of}
use Rattle.p9_lang.specs.LayoutExamples.{of, structure}
use Rattle.p9_lang.specs.TagRules.{Mentioned, AreMentioned, AreValid, Ends, NamelessEnds}
use Rattle.p9_sig.specs.Examples.{node, edge, node_first}
use Rattle.p9_sig.specs.TypesInRange.{IsOver}
use Rattle.p9_types.proofs.Shapes.{type_of_int, type_of_function}

node_first_ends : (i : ℕ) → i < 2 → Ends 2 node_first i
node_first_ends zero lt = (tt, (tt, tt))
node_first_ends (suc zero) lt = (tt, tt)
node_first_ends (suc (suc i)) lt = absurd (omega arith)

node_first_named : (i : ℕ) → i < 2 → NamelessEnds 2 node_first i
node_first_named zero lt = tt
node_first_named (suc zero) lt = tt
node_first_named (suc (suc i)) lt = absurd (omega arith)

pub node_first_valid : AreValid node_first
node_first_valid = record { in_range = refl; none_contains_itself = node_first_ends; cycles_are_named = node_first_named }

pub integers_push : (ts : List CType) → AreMentioned (λ i. i < 0) (type_row (types_of ts)) → AreMentioned (λ i. i < 0) (type_row (types_of (ts ++ ctype.Int ∷ [])))
integers_push [] h = (subst (Mentioned (λ i. i < 0)) (sym type_of_int) tt, tt)
integers_push (t ∷ ts) h = (h.0, integers_push ts h.1)

-- what the tests build

pub edge_is : (name : List ℕ) (empty ms : List Member) (m : Member) → name ≡ codes "Edge" → empty ≡ [] → ms ≡ empty ++ m ∷ []
    → m.name ≡ codes "to" → type_of m.ty ≡ Pointer (Tagged 0)
    → tag_of (record { is_union = false; name = name; members = Some ms; marked = false }) ≡ edge (codes "to") 0
edge_is name empty ms m n e f o t =
    ap (λ x. record { is_union = false; name = x; members = Some (members_of ms); is_marked = false }) n
    ∙ ap (λ l. record { is_union = false; name = codes "Edge"; members = Some (members_of l); is_marked = false }) (f ∙ ap (λ l. l ++ m ∷ []) e)
    ∙ ap (λ x. structure (codes "Edge") (of x (type_of m.ty) ∷ [])) o
    ∙ ap (λ u. structure (codes "Edge") (of (codes "to") u ∷ [])) t

pub node_is : (name : List ℕ) (empty ms later : List Member) (m n : Member) → name ≡ codes "Node" → empty ≡ [] → ms ≡ empty ++ m ∷ [] → later ≡ ms ++ n ∷ []
    → m.name ≡ codes "v" → type_of m.ty ≡ Int → n.name ≡ codes "e" → type_of n.ty ≡ Pointer (Tagged 1)
    → tag_of (record { is_union = false; name = name; members = Some later; marked = false }) ≡ node 1
node_is name empty ms later m n x e f g o t p u =
    ap (λ y. record { is_union = false; name = y; members = Some (members_of later); is_marked = false }) x
    ∙ ap (λ l. record { is_union = false; name = codes "Node"; members = Some (members_of l); is_marked = false }) (g ∙ ap (λ l. l ++ n ∷ []) (f ∙ ap (λ l. l ++ m ∷ []) e))
    ∙ ap (λ y. structure (codes "Node") (of y (type_of m.ty) ∷ of n.name (type_of n.ty) ∷ [])) o
    ∙ ap (λ v. structure (codes "Node") (of (codes "v") v ∷ of n.name (type_of n.ty) ∷ [])) t
    ∙ ap (λ y. structure (codes "Node") (of (codes "v") Int ∷ of y (type_of n.ty) ∷ [])) p
    ∙ ap (λ v. structure (codes "Node") (of (codes "v") Int ∷ of (codes "e") v ∷ [])) u

pub tags_are : (empty ts later : List Tag) (s t : Tag) → empty ≡ [] → ts ≡ empty ++ s ∷ [] → later ≡ ts ++ t ∷ [] → tag_of s ≡ node 1 → tag_of t ≡ edge (codes "to") 0
    → tags_of later ≡ node_first
tags_are empty ts later s t e f g p q =
    ap tags_of (g ∙ ap (λ l. l ++ t ∷ []) (f ∙ ap (λ l. l ++ s ∷ []) e))
    ∙ ap (λ a. a ∷ tag_of t ∷ []) p ∙ ap (λ a. node 1 ∷ a ∷ []) q

pub node_first_over : IsOver node_first (Pointer (Tagged 0))
node_first_over = omega arith

pub function_over : (ts : List Tag) (t : CType) (ps : List CType) → ts ≡ [] → Mentioned (λ i. i < 0) (type_of t)
    → AreMentioned (λ i. i < 0) (type_row (types_of ps)) → IsOver (tags_of ts) (type_of (ctype.Function t ps))
function_over ts t ps e h k =
    subst (λ l. IsOver (tags_of l) (type_of (ctype.Function t ps))) (sym e) (subst (IsOver []) (sym (type_of_function t ps)) (h, k))

pub pointer_over : (t : CType) → type_of t ≡ Pointer Void → Mentioned (λ i. i < 0) (type_of t)
pointer_over t e = subst (Mentioned (λ i. i < 0)) (sym e) tt

pub two_pointers_over : (t : CType) → type_of t ≡ Pointer (Pointer Void) → Mentioned (λ i. i < 0) (type_of t)
two_pointers_over t e = subst (Mentioned (λ i. i < 0)) (sym e) tt
