use Rattle.std.proofs.Common.{◌≡◌, length}
use Rattle.p9_cpp.specs.Directives.{listed_from}
use Rattle.p9_cpp.proofs.Params.{behind}
use Rattle.p9_cpp.proofs.directive.listed_from.Given as goal

abbrev pub invariant-loop-t : goal.invariant-loop-t
invariant-loop-t l = behind l.params (listed_from l.line) ≡ listed_from l.fn.line

abbrev pub decreases-loop-t : goal.decreases-loop-t
decreases-loop-t l = length l.line
