use Rattle.std.proofs.Common.{◌≡◌, ◌+◌, ◌++◌, length, map, All}
use Rattle.std.specs.Prelude.{filter}
use Rattle.p9_abs.specs.Validity.{HasSizeInRange}
use Rattle.p9_abs.specs.Programs.{numbered_from, is_data}
use Rattle.p9_place.specs.Objects.{object_of, is_object}
use Rattle.p9_place.proofs.objects.add_module.Given as goal

abbrev pub invariant-loop-rest : goal.invariant-loop-rest
invariant-loop-rest l = record {
  count : l.next + length l.rest ≡ length l.symbols;
  sizes : All (λ s. HasSizeInRange s.body) l.rest;
  inits : l.objects.inits.items ++ map object_of (filter is_data (numbered_from l.number l.next l.rest)) ≡ l.initial.objects.inits.items ++ map object_of (filter is_data (numbered_from l.number 0 l.symbols));
  bss : l.objects.bss.items ++ map object_of (filter (is_object l.defs.entries) (numbered_from l.number l.next l.rest)) ≡ l.initial.objects.bss.items ++ map object_of (filter (is_object l.defs.entries) (numbered_from l.number 0 l.symbols));
}

abbrev pub decreases-loop-rest : goal.decreases-loop-rest
decreases-loop-rest l = length l.rest
