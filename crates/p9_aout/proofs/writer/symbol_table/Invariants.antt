use Rattle.std.proofs.Common.{◌≡◌, take}
use Rattle.std.specs.List.{All}
use Rattle.p9_aout.specs.Symbols.{symbol_bytes, HasWordValue}
use Rattle.p9_aout.proofs.writer.symbol_table.Given as goal

abbrev pub invariant-loop-symbol : goal.invariant-loop-symbol
invariant-loop-symbol l = record {
  entries : l.table.items ≡ symbol_bytes (take l.symbol-index l.symbols);
  words : All HasWordValue (take l.symbol-index l.symbols);
}
