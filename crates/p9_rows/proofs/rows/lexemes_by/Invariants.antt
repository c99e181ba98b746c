use Rattle.std.proofs.Common.{◌≡◌, ◌+◌, ◌++◌, length, map, bytes_eq}
use Rattle.std.specs.List.{enumerate_from}
use Rattle.std.specs.HashMap.{get}
use Rattle.p9_rows.specs.Rows.{lexeme_by, lexemes_by}
use Rattle.p9_rows.proofs.rows.lexemes_by.Given as goal

abbrev pub invariant-loop-rest : goal.invariant-loop-rest
invariant-loop-rest l = record {
  lexemes : l.lexemes.items ++ map (lexeme_by (get bytes_eq l.places)) (enumerate_from l.place l.rest) ≡ lexemes_by (get bytes_eq l.places) l.tokens;
  count : l.place + length l.rest ≡ length l.tokens;
  len : length l.lexemes.items ≡ l.place;
}

abbrev pub decreases-loop-rest : goal.decreases-loop-rest
decreases-loop-rest l = length l.rest
