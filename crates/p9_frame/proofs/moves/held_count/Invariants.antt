use Rattle.std.proofs.Common.{◌≡◌, ◌≤◌, Bool, length}
use Rattle.p9_frame.specs.Plans.{held}
use Rattle.p9_frame.proofs.moves.held_count.Given as goal

abbrev pub invariant-loop-g : goal.invariant-loop-g
invariant-loop-g l = record {
  value : (loads : Bool) → l.count ≡ length (held l.code l.table loads l.i l.g);
  bound : l.count ≤ l.g;
}
