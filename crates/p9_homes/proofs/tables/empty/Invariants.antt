use Rattle.std.proofs.Common.{◌≡◌, None, replicate}
use Rattle.p9_homes.proofs.tables.empty.Given as goal

abbrev pub invariant-loop-i : goal.invariant-loop-i
invariant-loop-i l = l.cells.items ≡ replicate l.i None
