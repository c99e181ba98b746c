use Rattle.p9_lang.specs.Types.{tags_of}
use Rattle.p9_nodes.specs.Nodes.{node_in, row_in}
use Rattle.p9_nodes.proofs.Operands.{split_some}
use Rattle.p9_outline.proofs.Walking.{item_declared}
use Rattle.p9_outline.proofs.declared.declare_items.Goals as goal

pub items-preserved : goal.items-preserved
items-preserved c =
    let m = c.args.source.now.typed.now in
    item_declared (tags_of m.tags.list) (row_in m c.items.rest) (row_in m c.in-Some.others) (node_in m c.in-Some.item) _ _ _
    (split_some m c.items.rest c.in_ok-item.field-0 (c.in-Some.item, c.in-Some.others) c.in_ok-item.ensures c.in-Some.is)
    c.in_ok-declare_item.ensures c.items.invariant
