-- Nodes that are looked into.
use Rattle.std.proofs.Common.{◌≡◌, ◌+◌, ◌<◌, ℕ, List, [], ◌∷◌, map, refl, sym, ap, ◌∙◌, arith}
use Rattle.p9_lang.specs.declared.tree.Node.{Node, out-Node, fold_out-Node}
use Rattle.p9_lang.specs.Parts.{kind_at}
use Rattle.p9_lang.specs.Trees.{Syntax, node, more, row, syntax_step, syntax_of, row_of, nodes_of, nodes_of_row}

row-map : (ns : List Node) → row (map syntax_of ns) ≡ row_of ns
row-map [] = refl
row-map (n ∷ ns) = ap (more (syntax_of n)) (row-map ns)

pub syntax_of_out : (n : Node) → syntax_of n ≡ node (out-Node n).kind (out-Node n).token (row_of (out-Node n).parts)
unfolding syntax_of
syntax_of_out n = fold_out-Node Syntax syntax_step n ∙ ap (node (out-Node n).kind (out-Node n).token) (row-map (out-Node n).parts)

pub counted : (n : Node) → nodes_of (syntax_of n) ≡ nodes_of_row (row_of (out-Node n).parts) + 1
counted n = ap nodes_of (syntax_of_out n)

pub kind_there : (n : Node) → kind_at (syntax_of n) ≡ (out-Node n).kind
kind_there n = ap kind_at (syntax_of_out n)

-- a part has fewer nodes
pub part_smaller : (n part : Node) (others : List Node) → (out-Node n).parts ≡ part ∷ others → nodes_of (syntax_of part) < nodes_of (syntax_of n)
part_smaller n part others e =
    let k : nodes_of (syntax_of n) ≡ nodes_of (syntax_of part) + nodes_of_row (row_of others) + 1 =
    counted n ∙ ap (λ ns. nodes_of_row (row_of ns) + 1) e in
    omega arith

-- a node of a row, and those inside it
pub counts_next : (rest others : List Node) (n : Node) (so_far inside later all : ℕ) → rest ≡ n ∷ others
    → so_far + nodes_of_row (row_of rest) ≡ all → inside ≡ so_far + nodes_of_row (row_of (out-Node n).parts) → later ≡ inside + 1
    → later + nodes_of_row (row_of others) ≡ all
counts_next rest others n so_far inside later all e h i l =
    let k : so_far + (nodes_of_row (row_of (out-Node n).parts) + 1 + nodes_of_row (row_of others)) ≡ all =
    sym (ap (λ ns. so_far + nodes_of_row (row_of ns)) e ∙ ap (λ c. so_far + (c + nodes_of_row (row_of others))) (counted n)) ∙ h in
    omega arith
