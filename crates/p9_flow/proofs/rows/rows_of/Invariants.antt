use Rattle.std.proofs.Common.{◌≡◌}
use Rattle.p9_flow.specs.Tables.{rows_below}
use Rattle.p9_flow.proofs.rows.rows_of.Given as goal

abbrev pub invariant-loop-i : goal.invariant-loop-i
invariant-loop-i l = l.bits.items ≡ rows_below l.columns l.i
