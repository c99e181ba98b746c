use Rattle.std.proofs.Common.{◌<◌, ℕ, All, Contains}
use Rattle.p9_flow.specs.Columns.{AreNamed}
use Rattle.p9_flow.proofs.order.completed.Given as goal

abbrev pub invariant-loop-i : goal.invariant-loop-i
invariant-loop-i l = All (λ k. k < l.n) l.order.items × AreNamed l.placed.items l.order.items × ((k : ℕ) → k < l.i → Contains l.order.items k)
