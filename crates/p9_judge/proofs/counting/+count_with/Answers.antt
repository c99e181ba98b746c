use Rattle.std.proofs.Common.{◌+◌, ap, ◌∙◌}
use Rattle.p9_lang.specs.Trees.{row_of, nodes_of_row}
use Rattle.p9_types.proofs.Lists.{first_and_others}
use Rattle.p9_judge.proofs.Nodes.{counts_next}
use Rattle.p9_judge.proofs.counting.+count_with.Goals as goal

pub nodes-preserved : goal.nodes-preserved
nodes-preserved t c =
    counts_next c.nodes.rest.now _ c.node-item.result c.nodes.sum_so_far c.in_ok-inside.inside c.in_ok-sum_so_far.sum_so_far _
    (first_and_others c.nodes.rest.now c.node-item.result c.in-len1-up.len_at_least c.node-item.is)
    c.nodes.invariant (c.in_ok-inside.ensures ∙ ap (λ ns. c.nodes.sum_so_far + nodes_of_row (row_of ns)) c.as_slice.ensures)
    c.in_ok-sum_so_far.ensures
