use Rattle.std.proofs.Common.{◌≡◌, ◌<◌, ◌^◌, ℕ, List, length, slice_index}
use Rattle.p9_abs.specs.Framed.{start_of}
use Rattle.p9_frame.specs.Plans.{plan_of}
use Rattle.p9_frame.proofs.starts.starts.Given as goal

abbrev pub invariant-loop-i : goal.invariant-loop-i
invariant-loop-i l = record {
  size : length l.list.items ≡ l.i;
  before : (offsets : List ℕ) (k : ℕ) → k < l.i → slice_index l.list.items k ≡ start_of (plan_of l.code l.table offsets) k;
  next : (offsets : List ℕ) → l.at ≡ start_of (plan_of l.code l.table offsets) l.i;
  bound : l.at < 2 ^ 33;
}
