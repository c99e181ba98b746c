use Rattle.std.proofs.Common.{◌≡◌, ◌++◌, flat_map, take}
use Rattle.p9_object.specs.Fields.{symbol_fields}
use Rattle.p9_object.specs.Laws.{bytes_of}
use Rattle.p9_obj.proofs.writer.put_symbols.Given as goal

abbrev pub invariant-loop-symbol : goal.invariant-loop-symbol
invariant-loop-symbol l = l.out.items ≡ l.fn.out.items ++ bytes_of (flat_map symbol_fields (take l.symbol-index l.symbols))
