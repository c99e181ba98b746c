use Rattle.std.proofs.Common.{◌≡◌, ◌+◌, length}
use Rattle.p9_lang.specs.Trees.{row_of, nodes_of_row}
use Rattle.p9_judge.proofs.counting.+count_with.Given as goal

abbrev pub decreases-count_with : goal.decreases-count_with
decreases-count_with l = l.levels

abbrev pub invariant-nodes : goal.invariant-nodes
invariant-nodes l = l.sum_so_far + nodes_of_row (row_of l.rest) ≡ l.count + nodes_of_row (row_of l.nodes)

abbrev pub decreases-nodes : goal.decreases-nodes
decreases-nodes l = length l.rest
