use Rattle.std.proofs.Common.{◌≡◌, ◌+◌, ◌*◌, ◌++◌}
use Rattle.p9_lang.specs.Types.{tags_of}
use Rattle.p9_lang.specs.Trees.{count_of}
use Rattle.p9_nodes.specs.Evaluated.{operands_in}
use Rattle.p9_operand.specs.Told.{told_operands}
use Rattle.p9_nodes.specs.Nodes.{row_in}
use Rattle.p9_nodes.proofs.constants.+constant_within.Given as goal

abbrev pub decreases-operands_within : goal.decreases-operands_within
decreases-operands_within l = 2 * l.levels + 1

abbrev pub decreases-constant_within : goal.decreases-constant_within
decreases-constant_within l = 2 * l.levels

abbrev pub invariant-operands_within-parts : goal.invariant-operands_within-parts
invariant-operands_within-parts l =
    told_operands l.operands.items ++ operands_in (tags_of l.source.typed.now.tags.list) (row_in l.source.typed.now l.rest)
    ≡ operands_in (tags_of l.source.typed.now.tags.list) (row_in l.source.typed.now l.row)

abbrev pub decreases-operands_within-parts : goal.decreases-operands_within-parts
decreases-operands_within-parts l = count_of (row_in l.source.typed.now l.rest)
