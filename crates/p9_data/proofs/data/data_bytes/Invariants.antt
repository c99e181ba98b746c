use Rattle.std.proofs.Common.{◌≡◌, ◌+◌, ◌++◌, ◌<◌, ◌^◌, length, All}
use Rattle.p9_abs.specs.Programs.{records_from}
use Rattle.p9_data.specs.Data.{records_bytes}
use Rattle.p9_data.proofs.data.data_bytes.Given as goal

abbrev pub invariant-loop-rest : goal.invariant-loop-rest
invariant-loop-rest l = record {
  count : l.unit + length l.rest ≡ length l.modules;
  small : All (λ m. length m.symbols < 2 ^ 32) l.rest;
  listed : l.bytes.items ++ records_bytes l.tables (records_from l.unit l.rest) ≡ records_bytes l.tables (records_from 0 l.modules);
}

abbrev pub decreases-loop-rest : goal.decreases-loop-rest
decreases-loop-rest l = length l.rest
