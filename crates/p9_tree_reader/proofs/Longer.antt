-- A text with one more piece.
use Rattle.std.proofs.Common.{◌≡◌, ℕ, true, List, refl, sym, ap, ◌∙◌}
use Rattle.p9_lang.specs.declared.tree.Kind.{Kind}
use Rattle.p9_lang.specs.declared.tree.Kind.TheVariants as kind
use Rattle.p9_lang.specs.declared.tree.Node.{Node, out-Node}
use Rattle.p9_grammar.specs.Trees.{node, Trees, none, tree_of, trees_of}
use Rattle.p9_grammar.proofs.Nodes.{tree_of-out}
use Rattle.p9_tree_moves.specs.Moves.{is_text}
use Rattle.p9_tree_reader.specs.Reading.{longer, longer_kind, is_text_kind}

text_kind : (k : Kind) (at : ℕ) (ns : Trees) → is_text (node k at ns) ≡ is_text_kind k
text_kind (kind.Text pieces) at ns = refl
text_kind _ at ns = refl

pub text_node : (n : Node) → is_text (tree_of n) ≡ true → is_text_kind (out-Node n).kind ≡ true
text_node n e = sym (text_kind (out-Node n).kind (out-Node n).token (trees_of (out-Node n).parts)) ∙ sym (ap is_text (tree_of-out n)) ∙ e

by_kind : (k : Kind) (at : ℕ) (ns : Trees) (x : List ℕ) → is_text_kind k ≡ true → longer (node k at ns) x ≡ node (longer_kind k x) at none
by_kind (kind.Text pieces) at ns x e = refl
by_kind _ at ns x e = absurd (cc)

pub longer_node : (n : Node) (x : List ℕ) → is_text (tree_of n) ≡ true → longer (tree_of n) x ≡ node (longer_kind (out-Node n).kind x) (out-Node n).token none
longer_node n x e = ap (λ m. longer m x) (tree_of-out n) ∙ by_kind (out-Node n).kind (out-Node n).token (trees_of (out-Node n).parts) x (text_node n e)
