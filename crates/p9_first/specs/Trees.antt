-- Trees: the nodes of a file, each with its parts.
use Rattle.std.specs.Prelude.{ℕ, suc, ◌+◌, List, [], ◌∷◌}
use Rattle.p9_first.specs.declared.tree.Kind.{Kind}
use Rattle.p9_first.specs.declared.tree.Node.{Node, fold-Node}
use Rattle.p9_first.specs.declared.tree.Node.TheOpen.{Node-F}

-- a node with its kind, what is known of it, and its parts in order
mutual
  pub data Labelled (L : Type 0) : Type 0 where
    node : (kind : Kind) (label : L) (parts : Row L) → Labelled L

  pub data Row (L : Type 0) : Type 0 where
    none : Row L
    more : (first : Labelled L) (others : Row L) → Row L

-- a tree as it is read: of each node the place of its first token is known
abbrev pub Syntax : Type 0
Syntax = Labelled ℕ

abbrev pub SyntaxRow : Type 0
SyntaxRow = Row ℕ

-- how many there are in a row
abbrev pub count_of : {L : Type 0} → Row L → ℕ
count_of none = 0
count_of (more first others) = suc (count_of others)

-- how many nodes a tree has, and a row of trees
abbrev mutual
  pub nodes_of : {L : Type 0} → Labelled L → ℕ
  nodes_of (node kind label parts) = nodes_of_row parts + 1

  pub nodes_of_row : {L : Type 0} → Row L → ℕ
  nodes_of_row none = 0
  nodes_of_row (more first others) = nodes_of first + nodes_of_row others

-- The nodes of the program as such trees

abbrev pub row : List Syntax → SyntaxRow
row [] = none
row (first ∷ others) = more first (row others)

abbrev pub syntax_step : Node-F Syntax → Syntax
syntax_step layer = node layer.kind layer.token (row layer.parts)

unfoldable pub syntax_of : Node → Syntax
syntax_of = fold-Node Syntax syntax_step

abbrev pub row_of : List Node → SyntaxRow
row_of [] = none
row_of (first ∷ others) = more (syntax_of first) (row_of others)
