use Rattle.std.proofs.Common.{ℕ, ◌-◌, ◌≡◌, ◌≤◌, ◌&&◌, nat_le, nat_lt, if◌then◌else◌, length}
use Rattle.std.specs.Prelude.{slice_get, option_map}
use Rattle.p9_init.specs.Cells.{broken_cell}
use Rattle.p9_init.proofs.writing.break_addresses.Given as goal

abbrev pub invariant-loop-at : goal.invariant-loop-at
invariant-loop-at l = record {
  size : length l.cells ≡ length l.initial.cells;
  from : l.start - 3 ≤ l.at;
  last : l.last ≤ length l.initial.cells;
  each : (i : ℕ) → slice_get l.cells i ≡ (if nat_le (l.start - 3) i && nat_lt i l.at then option_map (broken_cell l.start l.end i) (slice_get l.initial.cells i) else slice_get l.initial.cells i);
}

abbrev pub decreases-loop-at : goal.decreases-loop-at
decreases-loop-at l = l.last - l.at
