-- Nodes with their height and number.
use Rattle.std.proofs.Common.{◌≡◌, ℕ, suc, ◌+◌, max, List, [], ◌∷◌, ◌++◌, ap, ◌∙◌, arith}
use Rattle.p9_lang.specs.declared.tree.Kind.{Kind}
use Rattle.p9_lang.specs.declared.tree.Node.{Node, roll-Node}
use Rattle.p9_grammar.specs.Trees.{Tree, node, Trees, none, more, push, tree_of, trees_of, height, height_in, nodes, nodes_in}
use Rattle.p9_grammar.proofs.Nodes.{tree_of-roll, trees_of-push}

pub height-push : (ns : Trees) (n : Tree) → height_in (push ns n) ≡ max (height_in ns) (height n)
height-push none n = omega arith
height-push (more m ms) n = let e = height-push ms n in omega arith

pub nodes-push : (ns : Trees) (n : Tree) → nodes_in (push ns n) ≡ nodes_in ns + nodes n
nodes-push none n = omega arith
nodes-push (more m ms) n = let e = nodes-push ms n in omega arith

-- what is known of a list with one more node
pub pushed_list : (ns all : List Node) (n : Node) → all ≡ ns ++ (n ∷ []) → trees_of all ≡ push (trees_of ns) (tree_of n)
pushed_list ns all n e = ap trees_of e ∙ trees_of-push ns n

pub pushed_height : (ns all : List Node) (n : Node) → all ≡ ns ++ (n ∷ []) → height_in (trees_of all) ≡ max (height_in (trees_of ns)) (height (tree_of n))
pushed_height ns all n e = ap height_in (pushed_list ns all n e) ∙ height-push (trees_of ns) (tree_of n)

pub pushed_nodes : (ns all : List Node) (n : Node) → all ≡ ns ++ (n ∷ []) → nodes_in (trees_of all) ≡ nodes_in (trees_of ns) + nodes (tree_of n)
pushed_nodes ns all n e = ap nodes_in (pushed_list ns all n e) ∙ nodes-push (trees_of ns) (tree_of n)

-- what is known of a node that is made
pub made_tree : (kind : Kind) (at : ℕ) (ns : List Node) → tree_of (roll-Node (record { kind = kind; token = at; parts = ns })) ≡ node kind at (trees_of ns)
made_tree kind at ns = tree_of-roll (record { kind = kind; token = at; parts = ns })

pub made_height : (kind : Kind) (at : ℕ) (ns : List Node) → height (tree_of (roll-Node (record { kind = kind; token = at; parts = ns }))) ≡ suc (height_in (trees_of ns))
made_height kind at ns = ap height (made_tree kind at ns)

pub made_nodes : (kind : Kind) (at : ℕ) (ns : List Node) → nodes (tree_of (roll-Node (record { kind = kind; token = at; parts = ns }))) ≡ suc (nodes_in (trees_of ns))
made_nodes kind at ns = ap nodes (made_tree kind at ns)
