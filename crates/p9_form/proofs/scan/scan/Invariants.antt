use Rattle.std.proofs.Common.{length}
use Rattle.p9_form.specs.Scanning.{seen}
use Rattle.p9_form.proofs.ScanLoop.{IsScanned}
use Rattle.p9_form.proofs.scan.scan.Given as goal

abbrev pub invariant-loop-left : goal.invariant-loop-left
invariant-loop-left l = IsScanned l.bytes (seen l.list.items) l.left

abbrev pub decreases-loop-left : goal.decreases-loop-left
decreases-loop-left l = length l.left
