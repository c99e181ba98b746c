use Rattle.std.proofs.lemmas.List.{get_or_default}
use Rattle.p9_object.specs.Fields.{operand_fields}
use Rattle.p9_obj.proofs.Spelled.{spelled_next}
use Rattle.p9_obj.proofs.writer.put_operands.Goals as goal

pub loop-operand-preserved : goal.loop-operand-preserved
loop-operand-preserved c =
    spelled_next operand_fields c.args.operands.now c.loop-operand.operand-index _ c.args.out.now.items c.loop-operand.out.items _ c.loop-operand-test.true (get_or_default c.args.operands.now c.loop-operand.operand-index _ _ c.loop-operand-test.true) c.loop-operand.invariant c.in_ok-put_operand.ensures
