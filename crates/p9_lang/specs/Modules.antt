-- Modules as plain data: trees whose nodes know their number, their first token, their type and
-- what they stand for.
use Rattle.std.specs.Prelude.{ℕ, ◌+◌, List, [], ◌∷◌, unwrap_or, slice_get}
use Rattle.p9_lang.specs.declared.module.Module.{Module}
use Rattle.p9_lang.specs.Types.{TypeTree, Void, Meant, Nothing, Tags, types_of, all_meant, tags_of}
use Rattle.p9_lang.specs.Trees.{Labelled, node, Row, none, more, Syntax, SyntaxRow, nodes_of, nodes_of_row, row_of}

-- what is known of a node of a module. Nodes are numbered from 0, the parts of a node before it.
pub record Label : Type 0 where
  pub number : ℕ
  pub token : ℕ
  pub type : TypeTree
  pub means : Meant

abbrev pub Typed : Type 0
Typed = Labelled Label

abbrev pub TypedRow : Type 0
TypedRow = Row Label

-- a module: its items, its structures and unions, and the names of file scope that are declared
-- static
pub record Source : Type 0 where
  pub items : TypedRow
  pub tags : Tags
  pub statics : List (List ℕ)

-- A tree with a type and a meaning for each node, from the node with this number on

abbrev pub label_of : List TypeTree → List Meant → (number token : ℕ) → Label
label_of types means number token = record {
  number = number;
  token = token;
  type = unwrap_or (slice_get types number) Void;
  means = unwrap_or (slice_get means number) Nothing;
}

abbrev mutual
  pub typed : List TypeTree → List Meant → ℕ → Syntax → Typed
  typed types means first (node k at parts) =
      node k (label_of types means (first + nodes_of_row parts) at) (typed_row types means first parts)

  pub typed_row : List TypeTree → List Meant → ℕ → SyntaxRow → TypedRow
  typed_row types means first none = none
  typed_row types means first (more tree others) =
      more (typed types means first tree) (typed_row types means (first + nodes_of tree) others)

-- a module of the program
abbrev pub source_of : Module → Source
source_of m = record {
  items = typed_row (types_of m.types) (all_meant m.binds) 0 (row_of m.tree.items);
  tags = tags_of m.tags.list;
  statics = m.statics;
}

abbrev pub sources_of : List Module → List Source
sources_of [] = []
sources_of (m ∷ ms) = source_of m ∷ sources_of ms
