use Rattle.std.proofs.Common.{◌≡◌, ◌++◌, length}
use Rattle.p9_pieces.specs.Callees.{callee_of}
use Rattle.p9_pieces.specs.Pieces.{pieces_from, joined, starts_from}
use Rattle.p9_pieces.proofs.walking.add_functions.Given as goal

abbrev pub invariant-loop-rest : goal.invariant-loop-rest
invariant-loop-rest l = record {
  lines : l.pieces.lines.items ++ joined (pieces_from (callee_of l.callees) l.number l.rest) ≡ l.initial.pieces.lines.items ++ joined (pieces_from (callee_of l.callees) 0 l.routines);
  starts : l.pieces.starts.items ++ starts_from (length l.pieces.lines.items) (pieces_from (callee_of l.callees) l.number l.rest) ≡ l.initial.pieces.starts.items ++ starts_from (length l.initial.pieces.lines.items) (pieces_from (callee_of l.callees) 0 l.routines);
}

abbrev pub decreases-loop-rest : goal.decreases-loop-rest
decreases-loop-rest l = length l.rest
