use Rattle.std.proofs.Common.{◌≡◌, length}
use Rattle.p9_cpp.specs.Directives.{angled_end}
use Rattle.p9_cpp.proofs.directive.angled_end.Given as goal

abbrev pub invariant-loop-t : goal.invariant-loop-t
invariant-loop-t l = angled_end l.line ≡ angled_end l.fn.line

abbrev pub decreases-loop-t : goal.decreases-loop-t
decreases-loop-t l = length l.line
