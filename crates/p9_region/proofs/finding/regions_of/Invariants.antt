use Rattle.std.proofs.Common.{◌≡◌, ◌≢◌, ◌/◌, ◌%◌, length}
use Rattle.p9_region.specs.Picking.{picked, column_bit}
use Rattle.p9_region.specs.Finding.{AreRegionsBelow}
use Rattle.p9_region.proofs.finding.regions_of.Given as goal

abbrev pub invariant-loop-v : goal.invariant-loop-v
invariant-loop-v l = record {
  regions : AreRegionsBelow l.f l.v l.list.items;
  column : l.v % 64 ≢ 0 → l.column.items ≡ picked (column_bit l.steps.items l.rows.bits.items l.rows.width (l.v / 64)) (length l.steps.items);
}
