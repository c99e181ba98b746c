-- Nodes of the program, by their kinds.
use Rattle.std.proofs.Common.{◌≡◌, ◌≤◌, List, [], ◌∷◌, length, slice_index_or, ap, sym, ◌∙◌, arith}
use Rattle.p9_lang.specs.declared.tree.Node.{Node, out-Node, fold_out-Node}
use Rattle.p9_lang.specs.Trees.{Syntax, syntax_step, syntax_of, row_of}
use Rattle.p9_lang.specs.Parts.{Follows, kind_at, follows, follows_kind}

kind_of_node : (n : Node) → kind_at (syntax_of n) ≡ (out-Node n).kind
unfolding syntax_of
kind_of_node n = ap kind_at (fold_out-Node Syntax syntax_step n)

-- what stands behind a declarator begins with the first part there
pub first_follows : (nodes : List Node) (first : Node) (what : Follows) → 1 ≤ length nodes → first ≡ slice_index_or nodes 0 first
    → what ≡ follows_kind (out-Node first).kind → what ≡ follows (row_of nodes)
first_follows [] first what le e f = absurd (omega arith)
first_follows (n ∷ nodes) first what le e f = f ∙ ap (λ m. follows_kind (out-Node m).kind) e ∙ ap follows_kind (sym (kind_of_node n))
