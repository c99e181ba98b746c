use Rattle.std.proofs.Common.{◌≡◌, ◌+◌, ◌++◌, ◌<◌, ◌^◌, length, All}
use Rattle.p9_abs.specs.Programs.{records_from, routines_in}
use Rattle.p9_text.proofs.order.add_modules.Given as goal

abbrev pub invariant-loop-rest : goal.invariant-loop-rest
invariant-loop-rest l = record {
  count : l.unit + length l.rest ≡ length l.modules;
  small : All (λ m. length m.symbols < 2 ^ 32) l.rest;
  listed : l.routines.items ++ routines_in (records_from l.unit l.rest) ≡ l.initial.routines.items ++ routines_in (records_from 0 l.modules);
}

abbrev pub decreases-loop-rest : goal.decreases-loop-rest
decreases-loop-rest l = length l.rest
