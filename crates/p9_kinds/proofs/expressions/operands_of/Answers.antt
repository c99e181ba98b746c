use Rattle.std.specs.Vec.Iter.{into_iter_items}
use Rattle.p9_lang.specs.Typing.{operands_of}
use Rattle.p9_parts.specs.Told.{parts_of}
use Rattle.p9_kinds.proofs.Operands.{operand_taken}
use Rattle.p9_kinds.proofs.expressions.operands_of.Goals as goal

pub parts-preserved : goal.parts-preserved
parts-preserved c =
    operand_taken (operands_of (parts_of c.args.parts.items)) c.parts.operands.items c.push.new.self.items (into_iter_items c.parts.part-iterator) (into_iter_items c.next.new.self)
    c.in-Some.part c.in-Some-operand_in.operand c.in-Some.ensures.steps.0 c.in-Some-operand_in.ensures c.in_ok-push-in-Some-operand_in.ensures.items c.parts.invariant
