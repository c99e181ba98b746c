use Rattle.p9_nodes.specs.Nodes.{label_of, row_in}
use Rattle.p9_nodes.proofs.Operands.{split_some}
use Rattle.p9_outline.proofs.Sets.{node_used}
use Rattle.p9_outline.proofs.uses.+use_within.Goals as goal

pub parts-preserved : goal.parts-preserved
parts-preserved t c q =
    let m = c.args.source.now.typed.now in
    let part = c.in-Some.part in
    node_used (row_in m c.parts.rest) (row_in m c.in-Some.others) (row_in m part.parts) part.kind.now (label_of part) q _ _ _ _
    (split_some m c.parts.rest c.in_ok-part.field-0 (part, c.in-Some.others) c.in_ok-part.ensures c.in-Some.is)
    (c.in_ok-use_within.ensures q) (c.in_ok-use_node.ensures q) (c.parts.invariant q)
