use Rattle.std.proofs.Common.{ℕ, ◌≡◌, ◌<◌, length, slice_index}
use Rattle.p9_region.proofs.classes.numbers.Given as goal

abbrev pub invariant-loop-i : goal.invariant-loop-i
invariant-loop-i l = (length l.labels.items ≡ l.i) × ((k : ℕ) → k < l.i → slice_index l.labels.items k ≡ k)
