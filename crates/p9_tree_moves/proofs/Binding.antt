-- How tightly nodes bind, by their kinds.
use Rattle.std.proofs.Common.{◌≡◌, ℕ, true, false, List, refl, ap, ◌∙◌}
use Rattle.p9_lang.specs.declared.tree.Kind.{Kind}
use Rattle.p9_lang.specs.declared.tree.Kind.TheVariants as kind
use Rattle.p9_lang.specs.declared.tree.Node.{Node, out-Node}
use Rattle.p9_grammar.specs.Trees.{Tree, node, Trees, tree_of, trees_of}
use Rattle.p9_grammar.specs.Grammar.{sort}
use Rattle.p9_grammar.specs.Machine.{level_of, level_of_sort, direct_of, direct_of_sort, lengthen, Apart}
use Rattle.p9_grammar.proofs.Nodes.{tree_of-out}
use Rattle.p9_tree_moves.specs.Moves.{is_text}

pub level_of_node : (n : Node) → level_of (tree_of n) ≡ level_of_sort (sort (out-Node n).kind)
level_of_node n = ap level_of (tree_of-out n)

pub direct_of_node : (n : Node) → direct_of (tree_of n) ≡ direct_of_sort (sort (out-Node n).kind)
direct_of_node n = ap direct_of (tree_of-out n)

text_by : (n : Node) (k : Kind) → (out-Node n).kind ≡ k → is_text (tree_of n) ≡ is_text (node k (out-Node n).token (trees_of (out-Node n).parts))
text_by n k e = ap is_text (tree_of-out n) ∙ ap (λ j. is_text (node j (out-Node n).token (trees_of (out-Node n).parts))) e

pub text_found : (n : Node) (pieces : List (List ℕ)) → (out-Node n).kind ≡ kind.Text pieces → is_text (tree_of n) ≡ true
text_found n pieces e = text_by n (kind.Text pieces) e

other_kind : (k : Kind) (at : ℕ) (ns : Trees) → ((pieces : List (List ℕ)) → k ≡ kind.Text pieces → ⊥) → is_text (node k at ns) ≡ false
other_kind (kind.Text pieces) at ns h = absurd (h pieces refl)
other_kind _ at ns h = refl

pub text_absent : (n : Node) → ((pieces : List (List ℕ)) → (out-Node n).kind ≡ kind.Text pieces → ⊥) → is_text (tree_of n) ≡ false
text_absent n h = ap is_text (tree_of-out n) ∙ other_kind (out-Node n).kind (out-Node n).token (trees_of (out-Node n).parts) h

pub not_longer : (n : Tree) (x : List ℕ) → false ≡ is_text n → lengthen n x ≡ Apart
not_longer (node (kind.Text pieces) at ns) x e = absurd (cc)
not_longer (node _ at ns) x e = refl
