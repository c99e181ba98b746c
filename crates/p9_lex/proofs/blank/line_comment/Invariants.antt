use Rattle.std.proofs.Common.{◌≡◌, ◌+◌, ◌≤◌, length}
use Rattle.p9_lex.specs.Blank.{line_comment}
use Rattle.p9_lex.proofs.blank.line_comment.Given as goal

abbrev pub invariant-loop-left : goal.invariant-loop-left
invariant-loop-left l = record {
  answer : line_comment l.length l.left ≡ line_comment l.from l.rest;
  from : l.from ≤ l.length;
  count : l.length + length l.left ≡ l.from + length l.rest;
}

abbrev pub decreases-loop-left : goal.decreases-loop-left
decreases-loop-left l = length l.left
