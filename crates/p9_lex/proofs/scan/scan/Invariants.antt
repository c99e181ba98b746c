use Rattle.std.proofs.Common.{◌≡◌, ◌+◌, ◌≤◌, true, false, length}
use Rattle.p9_lex.specs.Tokens.{in_front, scan}
use Rattle.p9_lex.proofs.scan.scan.Given as goal

abbrev pub invariant-loop-left : goal.invariant-loop-left
invariant-loop-left l = record {
  answer : in_front l.list.items (scan l.dialect 0 l.place l.line l.first l.joined l.left) ≡ scan l.dialect 0 0 1 true false l.bytes;
  count : l.place + length l.left ≡ length l.bytes;
  small : l.place ≤ 16777216;
  lines : l.line ≤ l.place + 1;
}

abbrev pub decreases-loop-left : goal.decreases-loop-left
decreases-loop-left l = length l.left
