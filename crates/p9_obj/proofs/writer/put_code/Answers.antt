use Rattle.p9_object.specs.Fields.{instruction_fields}
use Rattle.p9_obj.proofs.Spelled.{spelled_next}
use Rattle.p9_obj.proofs.writer.put_code.Goals as goal

pub loop-a-preserved : goal.loop-a-preserved
loop-a-preserved c =
    spelled_next instruction_fields c.args.code.now c.loop-a.a-index c.a-item.result c.args.out.now.items c.loop-a.out.items _ c.loop-a-test.true c.a-item.is c.loop-a.invariant c.in_ok-put_instruction.ensures
