use Rattle.std.proofs.Common.{◌≡◌, ◌+◌, length}
use Rattle.p9_form.specs.Scanning.{run_length}
use Rattle.p9_form.proofs.scan.run_length.Given as goal

abbrev pub invariant-loop-left : goal.invariant-loop-left
invariant-loop-left l = record {
  value : l.count + run_length l.left ≡ run_length l.bytes;
  within : l.count + length l.left ≡ length l.bytes;
}

abbrev pub decreases-loop-left : goal.decreases-loop-left
decreases-loop-left l = length l.left
