use Rattle.std.proofs.Common.{◌≡◌, ◌+◌, ◌++◌, length}
use Rattle.p9_abs.specs.Programs.{numbered_from}
use Rattle.p9_data.specs.Data.{records_bytes}
use Rattle.p9_data.proofs.data.push_module.Given as goal

abbrev pub invariant-loop-rest : goal.invariant-loop-rest
invariant-loop-rest l = record {
  count : l.next + length l.rest ≡ length l.symbols;
  listed : l.out.items ++ records_bytes l.tables (numbered_from l.unit l.next l.rest) ≡ l.initial.out.items ++ records_bytes l.tables (numbered_from l.unit 0 l.symbols);
}

abbrev pub decreases-loop-rest : goal.decreases-loop-rest
decreases-loop-rest l = length l.rest
