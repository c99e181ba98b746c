use Rattle.std.proofs.Common.{◌≡◌, ◌+◌, ◌++◌, ◌<◌, ◌^◌, length, map, All}
use Rattle.std.specs.Prelude.{filter}
use Rattle.p9_abs.specs.Validity.{IsValid}
use Rattle.p9_abs.specs.Programs.{records_from, is_data}
use Rattle.p9_place.specs.Objects.{object_of, is_object}
use Rattle.p9_place.proofs.objects.collected.Given as goal

abbrev pub invariant-loop-rest : goal.invariant-loop-rest
invariant-loop-rest l = record {
  count : l.number + length l.rest ≡ length l.modules;
  valid : All IsValid l.rest;
  small : All (λ m. length m.symbols < 2 ^ 32) l.rest;
  inits : l.objects.inits.items ++ map object_of (filter is_data (records_from l.number l.rest)) ≡ map object_of (filter is_data (records_from 0 l.modules));
  bss : l.objects.bss.items ++ map object_of (filter (is_object l.defs.entries) (records_from l.number l.rest)) ≡ map object_of (filter (is_object l.defs.entries) (records_from 0 l.modules));
}

abbrev pub decreases-loop-rest : goal.decreases-loop-rest
decreases-loop-rest l = length l.rest
