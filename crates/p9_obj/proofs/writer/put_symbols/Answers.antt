use Rattle.p9_object.specs.Fields.{symbol_fields}
use Rattle.p9_obj.proofs.Spelled.{spelled_next}
use Rattle.p9_obj.proofs.writer.put_symbols.Goals as goal

pub loop-symbol-preserved : goal.loop-symbol-preserved
loop-symbol-preserved c =
    spelled_next symbol_fields c.args.symbols.now c.loop-symbol.symbol-index c.symbol-item.result c.args.out.now.items c.loop-symbol.out.items _ c.loop-symbol-test.true c.symbol-item.is c.loop-symbol.invariant c.in_ok-put_symbol.ensures
