-- The symbols that a numbering numbers.
use Rattle.std.specs.Prelude.{List}
use Rattle.p9_lang.specs.Symbols.{Symbol}
use Rattle.p9_numbering.specs.declared.numbers.Numbering.{Numbering}
use Rattle.p9_numbering.specs.Told.{symbols_told}

abbrev pub numbered : Numbering → List Symbol
numbered n = symbols_told n.source.now.typed.now n.symbols.now
