use Rattle.p9_types.proofs.Lists.{first_and_others, empty_below}
use Rattle.p9_nodes.specs.Nodes.{row_in, node_in}
use Rattle.p9_nodes.proofs.Numbers.{row_split, row_none}
use Rattle.p9_nodes.proofs.nodes.split.Goals as goal

pub returns-in_default : goal.returns-in_default
unfolding row_in
returns-in_default c = row_none c.args.source.now.typed.now c.args.row.first c.args.row.nodes.now (empty_below c.args.row.nodes.now c.in_default.len_below)

pub returns : goal.returns
unfolding row_in
returns c =
    row_split c.args.source.now.typed.now c.args.row.first c.in_ok-first.first c.in_ok-node.node.number c.args.row.nodes.now _ c.node-item.result
    (node_in c.args.source.now.typed.now c.in_ok-node.node)
    (first_and_others c.args.row.nodes.now c.node-item.result c.in-len1-up.len_at_least c.node-item.is)
    c.in_ok-node.ensures.tree c.in_ok-node.ensures.number c.in_ok-first.ensures
