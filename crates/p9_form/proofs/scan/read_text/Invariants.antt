use Rattle.std.proofs.Common.{◌≡◌, ◌+◌, length, false}
use Rattle.p9_form.specs.Scanning.{quoted_from}
use Rattle.p9_form.proofs.ScanTexts.{with_bytes}
use Rattle.p9_form.proofs.scan.read_text.Given as goal

abbrev pub invariant-loop-left : goal.invariant-loop-left
invariant-loop-left l = record {
  answer : with_bytes l.bytes.items (quoted_from l.escaped l.length l.left) ≡ quoted_from false 1 l.rest;
  count : l.length + length l.left ≡ 1 + length l.rest;
}

abbrev pub decreases-loop-left : goal.decreases-loop-left
decreases-loop-left l = length l.left
