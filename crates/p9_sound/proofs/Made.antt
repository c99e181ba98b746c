-- What is plain, by the tree that was read and by what its names stand for.
use Rattle.std.proofs.Common.{ℕ, ◌+◌, List, Some, ap}
use Rattle.p9_lang.specs.declared.tree.CBinary.TheVariants as operator
use Rattle.p9_lang.specs.declared.tree.Kind.{Kind}
use Rattle.p9_lang.specs.declared.tree.Kind.TheVariants as kind
use Rattle.p9_lang.specs.Trees.{node, none, more, Syntax, SyntaxRow, nodes_of, nodes_of_row}
use Rattle.p9_lang.specs.Types.{TypeTree, Meant}
use Rattle.p9_lang.specs.Modules.{Label, label_of, typed, typed_row}
use Rattle.p9_lower.specs.Names.{Setting}
use Rattle.p9_sound.specs.Expressions.{NodeIsPlain, TreeIsPlain, RowIsPlain}
use Rattle.p9_sound.specs.Made.{NodeIsMade, IsMade, AreMade, NodeIsKnown, TreeIsKnown, RowIsKnown, MadeTreesArePlain}

node_plain : (setting : Setting) (types : List TypeTree) (means : List Meant) (first : ℕ) (k : Kind) (label : Label) (parts : SyntaxRow) → NodeIsMade k parts
    → NodeIsKnown setting k label (typed_row types means first parts) → NodeIsPlain setting k label (typed_row types means first parts)
node_plain setting types means first (kind.Name x) label parts m h = (h.0, h.1, ap (λ ts. typed_row types means first ts) m)
node_plain setting types means first (kind.Text texts) label parts m h = h
node_plain setting types means first (kind.Number value unsigned long) label parts m h = ap (λ ts. typed_row types means first ts) m
node_plain setting types means first (kind.Character value) label parts m h = ap (λ ts. typed_row types means first ts) m
node_plain setting types means first (kind.Assign (Some op)) label parts m h = m
node_plain setting types means first (kind.Binary operator.Sub) label none m h = tt
node_plain setting types means first (kind.Binary operator.Sub) label (more left others) m h = h
node_plain setting types means first k label parts m h = tt

mutual
  tree_plain : (setting : Setting) (types : List TypeTree) (means : List Meant) (first : ℕ) (t : Syntax) → IsMade t → TreeIsKnown setting (typed types means first t)
      → TreeIsPlain setting (typed types means first t)
  tree_plain setting types means first (node k at parts) m h = (
    node_plain setting types means first k (label_of types means (first + nodes_of_row parts) at) parts m.0 h.0,
    row_plain setting types means first parts m.1 h.1,
  )

  row_plain : (setting : Setting) (types : List TypeTree) (means : List Meant) (first : ℕ) (ts : SyntaxRow) → AreMade ts → RowIsKnown setting (typed_row types means first ts)
      → RowIsPlain setting (typed_row types means first ts)
  row_plain setting types means first none m h = tt
  row_plain setting types means first (more t ts) m h =
      (tree_plain setting types means first t m.0 h.0, row_plain setting types means (first + nodes_of t) ts m.1 h.1)

pub made_trees_are_plain : MadeTreesArePlain
made_trees_are_plain setting types means first ts m h = row_plain setting types means first ts m h
