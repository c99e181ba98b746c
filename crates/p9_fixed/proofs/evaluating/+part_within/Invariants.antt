use Rattle.std.proofs.Common.{◌≡◌, ◌+◌, ◌*◌, ◌++◌}
use Rattle.p9_lang.specs.Types.{tags_of}
use Rattle.p9_lang.specs.Trees.{count_of}
use Rattle.p9_nodes.specs.Nodes.{row_in}
use Rattle.p9_fixed.specs.Told.{told_parts}
use Rattle.p9_fixed.specs.Evaluated.{parts_in}
use Rattle.p9_fixed.proofs.evaluating.+part_within.Given as goal

abbrev pub decreases-parts_within : goal.decreases-parts_within
decreases-parts_within l = 2 * l.levels + 1

abbrev pub decreases-part_within : goal.decreases-part_within
decreases-part_within l = 2 * l.levels

abbrev pub invariant-parts_within-parts : goal.invariant-parts_within-parts
invariant-parts_within-parts l =
    told_parts l.parts.items ++ parts_in (tags_of l.source.typed.now.tags.list) (row_in l.source.typed.now l.rest)
    ≡ parts_in (tags_of l.source.typed.now.tags.list) (row_in l.source.typed.now l.row)

abbrev pub decreases-parts_within-parts : goal.decreases-parts_within-parts
decreases-parts_within-parts l = count_of (row_in l.source.typed.now l.rest)
