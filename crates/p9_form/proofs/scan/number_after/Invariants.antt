use Rattle.std.proofs.Common.{◌≡◌, ◌≤◌, length}
use Rattle.p9_form.specs.Scanning.{number_after}
use Rattle.p9_form.proofs.scan.number_after.Given as goal

abbrev pub invariant-loop-left : goal.invariant-loop-left
invariant-loop-left l = record {
  number : number_after l.value l.left ≡ number_after l.first l.digits;
  small : l.value ≤ 2147483647;
}

abbrev pub decreases-loop-left : goal.decreases-loop-left
decreases-loop-left l = length l.left
