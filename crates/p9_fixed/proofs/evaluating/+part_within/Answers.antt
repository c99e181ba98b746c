use Rattle.std.proofs.Common.{ap, ◌∙◌}
use Rattle.p9_lang.specs.Types.{tags_of}
use Rattle.p9_nodes.specs.Nodes.{label_of, node_in, row_in}
use Rattle.p9_nodes.proofs.Operands.{split_some}
use Rattle.p9_fixed.specs.Told.{told_part, told_parts}
use Rattle.p9_fixed.proofs.Parted.{part_told, parts_next}
use Rattle.p9_fixed.proofs.evaluating.+part_within.Goals as goal

pub part_within-returns : goal.part_within-returns
part_within-returns t c =
    part_told (tags_of c.args.source.now.typed.now.tags.list) c.args.node.kind.now (label_of c.args.node)
    (row_in c.args.source.now.typed.now c.args.node.parts) (told_part c.in_ok-part.part) (told_parts c.as_slice.result.now)
    c.in_ok-part.ensures (ap told_parts c.as_slice.ensures.value ∙ c.in_ok-parts.ensures)

pub parts_within-parts-preserved : goal.parts_within-parts-preserved
parts_within-parts-preserved t c =
    parts_next (tags_of c.args.source.now.typed.now.tags.list) c.parts.parts.items c.push.new.self.items c.in_ok-here.here
    (row_in c.args.source.now.typed.now c.parts.rest) (row_in c.args.source.now.typed.now c.in-Some.others) _
    (node_in c.args.source.now.typed.now c.in-Some.part) c.parts.invariant
    (split_some c.args.source.now.typed.now c.parts.rest c.in_ok-part.field-0 (c.in-Some.part, c.in-Some.others) c.in_ok-part.ensures c.in-Some.is)
    c.in_ok-push.ensures.items c.in_ok-here.ensures
