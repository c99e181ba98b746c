use Rattle.std.proofs.Common.{◌≡◌, ◌+◌, ◌≤◌, length}
use Rattle.p9_lex.specs.Number.{digits}
use Rattle.p9_lex.proofs.number.digits.Given as goal

abbrev pub invariant-loop-left : goal.invariant-loop-left
invariant-loop-left l = record {
  answer : digits l.base l.value l.length l.left ≡ digits l.base l.from_value l.from l.rest;
  from : l.from ≤ l.length;
  count : l.length + length l.left ≡ l.from + length l.rest;
}

abbrev pub decreases-loop-left : goal.decreases-loop-left
decreases-loop-left l = length l.left
