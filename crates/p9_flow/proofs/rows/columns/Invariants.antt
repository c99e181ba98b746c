use Rattle.std.proofs.Common.{◌≡◌, length}
use Rattle.p9_flow.specs.Tables.{AreColumns}
use Rattle.p9_flow.proofs.rows.columns.Given as goal

abbrev pub invariant-loop-word : goal.invariant-loop-word
invariant-loop-word l = (length l.columns.items ≡ l.word) × AreColumns l.acts l.columns.items
