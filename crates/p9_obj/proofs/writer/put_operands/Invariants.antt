use Rattle.std.proofs.Common.{◌≡◌, ◌++◌, flat_map, take}
use Rattle.p9_object.specs.Fields.{operand_fields}
use Rattle.p9_object.specs.Laws.{bytes_of}
use Rattle.p9_obj.proofs.writer.put_operands.Given as goal

abbrev pub invariant-loop-operand : goal.invariant-loop-operand
invariant-loop-operand l = l.out.items ≡ l.fn.out.items ++ bytes_of (flat_map operand_fields (take l.operand-index l.operands))
