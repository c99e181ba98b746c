use Rattle.std.proofs.Common.{◌≡◌, ◌≤◌, ◌+◌, ◌++◌, length, vec_len}
use Rattle.p9_rows.specs.Rows.{lines_of, rows_from, rows_of}
use Rattle.p9_rows.proofs.rows.rows_of.Given as goal

abbrev pub invariant-loop-end : goal.invariant-loop-end
invariant-loop-end l = record {
  rows : l.rows.items ++ rows_from (vec_len l.rows) l.token l.place (lines_of l.rest) ≡ rows_of l.lexemes;
  count : l.token + length l.rest ≡ length l.lexemes;
  few : vec_len l.rows ≤ l.token;
  number : l.place.number ≤ l.token;
}

abbrev pub decreases-loop-end : goal.decreases-loop-end
decreases-loop-end l = length l.rest
