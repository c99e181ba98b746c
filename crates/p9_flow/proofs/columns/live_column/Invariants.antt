use Rattle.std.proofs.Common.{◌≡◌, length}
use Rattle.p9_flow.specs.Columns.{IsSound, slack}
use Rattle.p9_flow.proofs.columns.live_column.Given as goal

abbrev pub invariant-loop : goal.invariant-loop
invariant-loop l = (length l.column.items ≡ length l.acts) × IsSound l.acts l.word l.column.items

abbrev pub decreases-loop : goal.decreases-loop
decreases-loop l = slack l.column.items
