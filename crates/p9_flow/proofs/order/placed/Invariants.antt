use Rattle.std.proofs.Common.{◌≡◌, length}
use Rattle.p9_flow.specs.Columns.{AreNamed}
use Rattle.p9_flow.proofs.order.placed.Given as goal

abbrev pub invariant-loop-i : goal.invariant-loop-i
invariant-loop-i l = (length l.placed.items ≡ l.n) × AreNamed l.placed.items l.order
