use Rattle.std.proofs.Common.{◌≡◌, ◌||◌, ℕ, false, length, slice_index_or}
use Rattle.p9_slot.specs.Blocks.{is_named}
use Rattle.p9_slot.specs.Placing.{TargetsBelow}
use Rattle.p9_slot.proofs.blocks.named.Given as goal

abbrev pub invariant-loop-rest : goal.invariant-loop-rest
invariant-loop-rest l = record {
  size : length l.named.items ≡ length l.lines;
  below : TargetsBelow (length l.lines) l.rest;
  each : (t : ℕ) → (slice_index_or l.named.items t false || is_named l.rest t) ≡ is_named l.lines t;
}

abbrev pub decreases-loop-rest : goal.decreases-loop-rest
decreases-loop-rest l = length l.rest
