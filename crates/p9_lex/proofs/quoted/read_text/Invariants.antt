use Rattle.std.proofs.Common.{◌≡◌, ◌+◌, ◌≤◌, length}
use Rattle.p9_lex.specs.Quoted.{text}
use Rattle.p9_lex.proofs.TextLemmas.{with_bytes}
use Rattle.p9_lex.proofs.quoted.read_text.Given as goal

abbrev pub invariant-loop-left : goal.invariant-loop-left
invariant-loop-left l = record {
  answer : with_bytes l.bytes.items (text 0 l.length l.left) ≡ text 0 1 l.rest;
  count : l.length + length l.left ≡ 1 + length l.rest;
  some : 1 ≤ l.length;
}

abbrev pub decreases-loop-left : goal.decreases-loop-left
decreases-loop-left l = length l.left
