-- Nodes of a module that are read with what is known of them, as the trees of the module.
use Rattle.std.specs.Prelude.{Bool, true, false}
use Rattle.p9_lang.specs.declared.module.Module.{Module}
use Rattle.p9_lang.specs.Types.{Meant, Nothing, type_of, types_of, meant, all_meant}
use Rattle.p9_lang.specs.Trees.{node, row_of}
use Rattle.p9_lang.specs.Modules as modules
use Rattle.p9_lang.specs.Modules.{Label, Typed, typed_row}
use Rattle.p9_nodes.specs.declared.nodes.TypedNode.{TypedNode}
use Rattle.p9_nodes.specs.declared.nodes.NodeRow.{NodeRow}

abbrev pub label_of : TypedNode → Label
label_of n = record { number = n.number; token = n.token; type = type_of n.ty.now; means = meant n.means.now }

-- the trees of nodes beside each other
unfoldable pub row_in : Module → NodeRow → modules.TypedRow
row_in m row = typed_row (types_of m.types) (all_meant m.binds) row.first (row_of row.nodes.now)

-- the tree of a node
abbrev pub node_in : Module → TypedNode → Typed
node_in m n = node n.kind.now (label_of n) (row_in m n.parts)
