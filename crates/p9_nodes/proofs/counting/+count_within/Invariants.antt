use Rattle.std.proofs.Common.{◌≡◌, ◌+◌, length}
use Rattle.p9_lang.specs.Trees.{syntax_of, row_of, nodes_of, nodes_of_row}
use Rattle.p9_nodes.proofs.counting.+count_within.Given as goal

abbrev pub decreases-count_within : goal.decreases-count_within
decreases-count_within l = l.levels

abbrev pub invariant-parts : goal.invariant-parts
invariant-parts l = l.count + nodes_of_row (row_of l.rest) ≡ nodes_of (syntax_of l.node)

abbrev pub decreases-parts : goal.decreases-parts
decreases-parts l = length l.rest
