use Rattle.std.proofs.Common.{◌≡◌, ◌++◌, length}
use Rattle.p9_pieces.specs.Functions.{scope}
use Rattle.p9_pieces.specs.Pieces.{code_pieces, joined, starts_from}
use Rattle.p9_pieces.proofs.walking.add_code.Given as goal

abbrev pub invariant-loop-rest : goal.invariant-loop-rest
invariant-loop-rest l = record {
  lines : l.pieces.lines.items ++ joined (code_pieces (scope l.function) l.number l.rest) ≡ l.initial.pieces.lines.items ++ joined (code_pieces (scope l.function) 0 l.code);
  starts : l.pieces.starts.items ++ starts_from (length l.pieces.lines.items) (code_pieces (scope l.function) l.number l.rest) ≡ l.initial.pieces.starts.items ++ starts_from (length l.initial.pieces.lines.items) (code_pieces (scope l.function) 0 l.code);
}

abbrev pub decreases-loop-rest : goal.decreases-loop-rest
decreases-loop-rest l = length l.rest
