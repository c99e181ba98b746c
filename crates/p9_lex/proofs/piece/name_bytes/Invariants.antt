use Rattle.std.proofs.Common.{◌≡◌, ◌+◌, length}
use Rattle.p9_lex.specs.Piece.{name_bytes}
use Rattle.p9_lex.proofs.piece.name_bytes.Given as goal

abbrev pub invariant-loop-left : goal.invariant-loop-left
invariant-loop-left l = record {
  answer : l.count + name_bytes l.left ≡ name_bytes l.rest;
  count : l.count + length l.left ≡ length l.rest;
}

abbrev pub decreases-loop-left : goal.decreases-loop-left
decreases-loop-left l = length l.left
