use Rattle.p9_nodes.specs.Nodes.{row_in}
use Rattle.p9_nodes.proofs.Numbers.{counts_one, number_of, next_number, node_tree}
use Rattle.p9_nodes.proofs.nodes.node_at.Goals as goal

pub overflow_sub-count : goal.overflow_sub-count
overflow_sub-count c = counts_one c.args.node.now c.in_ok-count.count c.in_ok-count.ensures

pub returns-clause-tree : goal.returns-clause-tree
unfolding row_in
returns-clause-tree c =
    node_tree c.args.source.now.typed.now c.args.node.now c.as_slice.result.now c.args.first c.in_ok-number.number _ _
    (number_of c.args.node.now c.args.first c.in_ok-count.count c.in_ok-number.number c.in_ok-count.ensures c.in_ok-number.ensures)
    c.as_slice.ensures c.type_at.ensures c.meaning_at.ensures

pub returns-clause-number : goal.returns-clause-number
returns-clause-number c =
    next_number c.args.node.now c.args.first c.in_ok-count.count c.in_ok-number.number c.in_ok-count.ensures c.in_ok-number.ensures
