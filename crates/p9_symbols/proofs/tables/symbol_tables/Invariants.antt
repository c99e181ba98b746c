use Rattle.std.proofs.Common.{◌≡◌, ◌+◌, ◌++◌, ◌∷◌, [], ◌<◌, ◌^◌, length, All}
use Rattle.p9_symbols.specs.Held.{address_held}
use Rattle.p9_symbols.specs.Tables.{tables_from}
use Rattle.p9_symbols.proofs.tables.symbol_tables.Given as goal

abbrev pub invariant-loop-rest : goal.invariant-loop-rest
invariant-loop-rest l = record {
  count : l.unit + length l.rest ≡ length l.modules;
  small : All (λ m. length m.symbols < 2 ^ 32) l.rest;
  listed : l.tables.items ++ tables_from (address_held l.layout) l.unit (l.rest ++ l.last ∷ []) ≡ tables_from (address_held l.layout) 0 (l.modules ++ l.last ∷ []);
}

abbrev pub decreases-loop-rest : goal.decreases-loop-rest
decreases-loop-rest l = length l.rest
