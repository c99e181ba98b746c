use Rattle.std.proofs.Common.{◌≡◌, ap, ◌∙◌}
use Rattle.p9_lang.specs.Types.{type_of, tags_of}
use Rattle.p9_operand.specs.Told.{told_constant, told_operands}
use Rattle.p9_nodes.specs.Nodes.{label_of, node_in, row_in}
use Rattle.p9_nodes.proofs.Operands.{constant_told, operands_next, split_some}
use Rattle.p9_nodes.proofs.constants.+constant_within.Goals as goal

pub constant_within-returns : goal.constant_within-returns
constant_within-returns t c =
    constant_told (tags_of c.args.source.now.typed.now.tags.list) c.args.node.now.kind.now (label_of c.args.node.now)
    (row_in c.args.source.now.typed.now c.args.node.now.parts) (told_constant c.in_ok-constant.constant) (told_operands c.as_slice.result.now)
    c.in_ok-constant.ensures (ap told_operands c.as_slice.ensures.value ∙ c.in_ok-operands.ensures)

pub operands_within-parts-preserved : goal.operands_within-parts-preserved
operands_within-parts-preserved t c =
    operands_next (tags_of c.args.source.now.typed.now.tags.list) c.parts.operands.items c.push.new.self.items c.in_ok-ty.ty c.in_ok-constant.constant
    (row_in c.args.source.now.typed.now c.parts.rest) (row_in c.args.source.now.typed.now c.in-Some.others) _
    (node_in c.args.source.now.typed.now c.in-Some.part) c.parts.invariant
    (split_some c.args.source.now.typed.now c.parts.rest c.in_ok-part.field-0 (c.in-Some.part, c.in-Some.others) c.in_ok-part.ensures c.in-Some.is)
    c.in_ok-push.ensures.items (ap type_of c.in_ok-ty.ensures) c.in_ok-constant.ensures
