use Rattle.std.proofs.Common.{◌≡◌, ℕ, List, length}
use Rattle.std.specs.Option.{option_or}
use Rattle.p9_cmean.specs.Union.{number_from}
use Rattle.p9_lower.specs.Names.{is_outer_symbol, is_static_symbol, outer_symbol, static_symbol}
use Rattle.p9_numbering.specs.Told.{symbols_told}
use Rattle.p9_numbering.specs.Maps.{outer_held, static_held}
use Rattle.p9_numbering.proofs.numbers.Numbering.new.Given as goal

abbrev pub invariant-symbols : goal.invariant-symbols
invariant-symbols l = record {
  outers : (q : List ℕ) → option_or (outer_held l.outers.entries q) (number_from l.number (is_outer_symbol q) (symbols_told l.source.typed.now l.rest))
      ≡ outer_symbol (symbols_told l.source.typed.now l.symbols) q;
  statics : (q : ℕ) → option_or (static_held l.statics.entries q) (number_from l.number (is_static_symbol q) (symbols_told l.source.typed.now l.rest))
      ≡ static_symbol (symbols_told l.source.typed.now l.symbols) q;
}

abbrev pub decreases-symbols : goal.decreases-symbols
decreases-symbols l = length l.rest
