-- The trees of nodes.
use Rattle.std.proofs.Common.{◌≡◌, ℕ, List, [], ◌∷◌, ◌++◌, map, refl, ap, sym, ◌∙◌}
use Rattle.p9_lang.specs.declared.tree.Kind.{Kind}
use Rattle.p9_lang.specs.declared.tree.Node.{Node, out-Node, roll-Node, fold-Node, fold-roll-Node, fold_out-Node, ind-Node, map-Node}
use Rattle.p9_lang.specs.declared.tree.Node.TheOpen.{Node-F}
use Rattle.p9_grammar.specs.Trees.{Tree, node, Trees, none, more, push, trees, tree_step, tree_of, trees_of}
use Rattle.p9_grammar.specs.Machine.{start_of}

trees-map : (ns : List Node) → trees (map tree_of ns) ≡ trees_of ns
trees-map [] = refl
trees-map (n ∷ ns) = ap (more (tree_of n)) (trees-map ns)

-- a node that is made
pub tree_of-roll : (x : Node-F Node) → tree_of (roll-Node x) ≡ node x.kind x.token (trees_of x.parts)
unfolding tree_of
tree_of-roll x = fold-roll-Node Tree tree_step x ∙ ap (node x.kind x.token) (trees-map x.parts)

-- a node that is looked into
pub tree_of-out : (n : Node) → tree_of n ≡ node (out-Node n).kind (out-Node n).token (trees_of (out-Node n).parts)
unfolding tree_of
tree_of-out n = fold_out-Node Tree tree_step n ∙ ap (node (out-Node n).kind (out-Node n).token) (trees-map (out-Node n).parts)

pub start_of-tree : (n : Node) → start_of (tree_of n) ≡ (out-Node n).token
start_of-tree n = ap start_of (tree_of-out n)

pub trees_of-push : (ns : List Node) (n : Node) → trees_of (ns ++ (n ∷ [])) ≡ push (trees_of ns) (tree_of n)
trees_of-push [] n = refl
trees_of-push (m ∷ ns) n = ap (more (tree_of m)) (trees_of-push ns n)

-- A node is known by its tree.

abbrev mutual
  pub node_of : Tree → Node
  node_of (node kind at parts) = roll-Node (record { kind = kind; token = at; parts = nodes_of parts })

  pub nodes_of : Trees → List Node
  nodes_of none = []
  nodes_of (more n ns) = node_of n ∷ nodes_of ns

all_back : {X : Type 0} (f : X → Node) (ys : List X) → ((y : X) → node_of (tree_of (f y)) ≡ f y) → nodes_of (trees_of (map f ys)) ≡ map f ys
all_back f [] h = refl
all_back f (y ∷ ys) h = ap (λ m. m ∷ nodes_of (trees_of (map f ys))) (h y) ∙ ap (λ ms. f y ∷ ms) (all_back f ys h)

pub back : (n : Node) → node_of (tree_of n) ≡ n
back = ind-Node (λ n. node_of (tree_of n) ≡ n) (λ x y e.
    ap node_of (tree_of-roll x)
    ∙ ap (λ ps. roll-Node (record { kind = x.kind; token = x.token; parts = ps }))
    (let parts : map (λ e. e.0) y.parts ≡ x.parts = ap (λ l. l.parts) e in
    ap (λ ps. nodes_of (trees_of ps)) (sym parts) ∙ all_back (λ e. e.0) y.parts (λ e. e.1) ∙ parts))

pub same_node : (m n : Node) → tree_of m ≡ tree_of n → m ≡ n
same_node m n e = sym (back m) ∙ ap node_of e ∙ back n

pub all-back : (ns : List Node) → nodes_of (trees_of ns) ≡ ns
all-back [] = refl
all-back (n ∷ ns) = ap (λ m. m ∷ nodes_of (trees_of ns)) (back n) ∙ ap (λ ms. n ∷ ms) (all-back ns)

pub same_nodes : (ms ns : List Node) → trees_of ms ≡ trees_of ns → ms ≡ ns
same_nodes ms ns e = sym (all-back ms) ∙ ap nodes_of e ∙ all-back ns
