-- Small types and their texts, computed.
use Rattle.std.specs.Prelude.{◌≡◌, true, false, List, [], ◌∷◌, ℕ, Some, codes}
use Rattle.p9_lang.specs.Types.{TypeTree, Void, Char, UChar, Int, UInt, ULong, Pointer, Array, Function, Tagged, TypeRow, MemberTree, TagTree, Tags}
use Rattle.p9_lang.specs.Types as types
use Rattle.p9_lang.specs.LayoutExamples.{of, structure, union_of, bodiless}
use Rattle.p9_sig.specs.Texts.{signature_text}

-- struct Node { int v; struct Edge *e; }; struct Edge { struct Node *to; };
abbrev pub node : (edge : ℕ) → TagTree
node edge = structure (codes "Node") (of (codes "v") Int ∷ of (codes "e") (Pointer (Tagged edge)) ∷ [])

abbrev pub edge : (to : List ℕ) (node : ℕ) → TagTree
edge to node = structure (codes "Edge") (of to (Pointer (Tagged node)) ∷ [])

abbrev pub node_first : Tags
node_first = node 1 ∷ edge (codes "to") 0 ∷ []

abbrev pub edge_first : Tags
edge_first = edge (codes "to") 1 ∷ node 0 ∷ []

abbrev pub with_other_member : Tags
with_other_member = node 1 ∷ edge (codes "back") 0 ∷ []

-- a marked structure and union, structures without a body and without a tag, and a union of an
-- unnamed substructure
abbrev pub shapes : Tags
shapes =
    record (structure (codes "Lock") (of (codes "held") Int ∷ [])) { is_marked = true }
    ∷ record (union_of (codes "Key") (of (codes "n") Int ∷ [])) { is_marked = true }
    ∷ bodiless (codes "Later") false
    ∷ structure [] (of (codes "b") (Array UChar 4) ∷ [])
    ∷ union_of (codes "Word") (of (codes "n") UInt ∷ of [] (Tagged 3) ∷ [])
    ∷ []

abbrev pub twice : ℕ → TypeTree
twice i = Function Void (types.more (Pointer (Tagged i)) (types.more (Pointer (Tagged i)) types.none))

pub record Texts : Type 0 where
  pub of_node : signature_text node_first (Pointer (Tagged 0)) ≡ Some (codes "*{Node:v:i;e:*{Edge:to:*@Node;;};}")
  pub of_node_declared_last : signature_text edge_first (Pointer (Tagged 1)) ≡ Some (codes "*{Node:v:i;e:*{Edge:to:*@Node;;};}")
  pub with_other_name : signature_text with_other_member (Pointer (Tagged 0)) ≡ Some (codes "*{Node:v:i;e:*{Edge:back:*@Node;;};}")
  pub of_main : signature_text [] (Function Void (types.more Int (types.more (Pointer (Pointer Char)) types.none))) ≡ Some (codes "(i;**c;)v")
  pub of_array : signature_text [] (Array (Array ULong 120) 3) ≡ Some (codes "[3][120]L")
  pub of_marked_structure : signature_text shapes (twice 0) ≡ Some (codes "(*?{Lock};*@Lock;;)v")
  pub of_marked_union : signature_text shapes (twice 1) ≡ Some (codes "(*?<Key>;*@Key;;)v")
  pub without_body : signature_text shapes (twice 2) ≡ Some (codes "(*?{Later};*@Later;;)v")
  pub without_tag : signature_text shapes (twice 3) ≡ Some (codes "(*{:b:[4]C;};*{:b:[4]C;};)v")
  pub of_union : signature_text shapes (twice 4) ≡ Some (codes "(*<Word:n:I;:{:b:[4]C;};>;*@Word;;)v")
