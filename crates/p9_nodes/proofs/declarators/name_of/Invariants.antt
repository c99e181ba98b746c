use Rattle.std.proofs.Common.{◌≡◌}
use Rattle.p9_lang.specs.Trees.{nodes_of}
use Rattle.p9_lang.specs.Symbols.{name_label}
use Rattle.p9_nodes.specs.Nodes.{node_in}
use Rattle.p9_nodes.proofs.declarators.name_of.Given as goal

abbrev pub invariant-inwards : goal.invariant-inwards
invariant-inwards l = name_label (node_in l.source.typed.now l.inner) ≡ name_label (node_in l.source.typed.now l.node)

abbrev pub decreases-inwards : goal.decreases-inwards
decreases-inwards l = nodes_of (node_in l.source.typed.now l.inner)
