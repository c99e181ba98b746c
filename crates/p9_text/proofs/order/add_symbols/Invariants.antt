use Rattle.std.proofs.Common.{◌≡◌, ◌+◌, ◌++◌, length}
use Rattle.p9_abs.specs.Programs.{numbered_from, routines_in}
use Rattle.p9_text.proofs.order.add_symbols.Given as goal

abbrev pub invariant-loop-rest : goal.invariant-loop-rest
invariant-loop-rest l = record {
  count : l.next + length l.rest ≡ l.initial.next + length l.symbols;
  listed : l.routines.items ++ routines_in (numbered_from l.unit l.next l.rest) ≡ l.initial.routines.items ++ routines_in (numbered_from l.unit l.initial.next l.symbols);
}

abbrev pub decreases-loop-rest : goal.decreases-loop-rest
decreases-loop-rest l = length l.rest
