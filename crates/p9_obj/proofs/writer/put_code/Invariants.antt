use Rattle.std.proofs.Common.{◌≡◌, ◌++◌, flat_map, take}
use Rattle.p9_object.specs.Fields.{instruction_fields}
use Rattle.p9_object.specs.Laws.{bytes_of}
use Rattle.p9_obj.proofs.writer.put_code.Given as goal

abbrev pub invariant-loop-a : goal.invariant-loop-a
invariant-loop-a l = l.out.items ≡ l.fn.out.items ++ bytes_of (flat_map instruction_fields (take l.a-index l.code))
