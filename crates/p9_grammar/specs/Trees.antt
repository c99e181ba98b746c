-- Trees: nodes with their kind, the place of their first token, and their parts in order.
use Rattle.std.specs.Prelude.{ℕ, suc, ◌+◌, ◌≤◌, nat_le, List, [], ◌∷◌, if◌then◌else◌, max}
use Rattle.p9_lang.specs.declared.tree.Kind.{Kind}
use Rattle.p9_lang.specs.declared.tree.Node.{Node, fold-Node}
use Rattle.p9_lang.specs.declared.tree.Node.TheOpen.{Node-F}

mutual
  pub data Tree : Type 0 where
    node : (kind : Kind) (token : ℕ) (parts : Trees) → Tree

  pub data Trees : Type 0 where
    none : Trees
    more : (first : Tree) (others : Trees) → Trees

abbrev pub count : Trees → ℕ
count none = 0
count (more n ns) = suc (count ns)

-- one more at the end
abbrev pub push : Trees → Tree → Trees
push none n = more n none
push (more m ms) n = more m (push ms n)

-- how many nodes there are
abbrev mutual
  pub nodes : Tree → ℕ
  nodes (node kind token parts) = suc (nodes_in parts)

  pub nodes_in : Trees → ℕ
  nodes_in none = 0
  nodes_in (more n ns) = nodes n + nodes_in ns

-- how many nodes stand on the longest path
abbrev mutual
  pub height : Tree → ℕ
  height (node kind token parts) = suc (height_in parts)

  pub height_in : Trees → ℕ
  height_in none = 0
  height_in (more n ns) = max (height n) (height_in ns)

-- The nodes of the program as such trees

abbrev pub trees : List Tree → Trees
trees [] = none
trees (n ∷ ns) = more n (trees ns)

abbrev pub tree_step : Node-F Tree → Tree
tree_step layer = node layer.kind layer.token (trees layer.parts)

unfoldable pub tree_of : Node → Tree
tree_of = fold-Node Tree tree_step

abbrev pub trees_of : List Node → Trees
trees_of [] = none
trees_of (n ∷ ns) = more (tree_of n) (trees_of ns)
