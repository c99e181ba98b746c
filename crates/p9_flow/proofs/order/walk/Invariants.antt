use Rattle.std.proofs.Common.{◌≡◌, ◌<◌, length, All}
use Rattle.p9_flow.proofs.order.walk.Given as goal

abbrev pub invariant-search : goal.invariant-search
invariant-search l = (length l.stages.items ≡ length l.acts) × All (λ k. k < length l.acts) l.opened.items × All (λ k. k < length l.acts) l.order.items
