use Rattle.std.proofs.Common.{◌≡◌, ◌+◌, ◌++◌, ◌<◌, ◌^◌, length}
use Rattle.p9_symbols.specs.Held.{address_held}
use Rattle.p9_symbols.specs.Tables.{addresses_in}
use Rattle.p9_symbols.proofs.tables.addresses_in.Given as goal

abbrev pub invariant-loop-rest : goal.invariant-loop-rest
invariant-loop-rest l = record {
  count : l.next + length l.rest < 2 ^ 32;
  listed : l.list.items ++ addresses_in (address_held l.layout) l.unit l.next l.rest ≡ addresses_in (address_held l.layout) l.unit 0 l.symbols;
}

abbrev pub decreases-loop-rest : goal.decreases-loop-rest
decreases-loop-rest l = length l.rest
