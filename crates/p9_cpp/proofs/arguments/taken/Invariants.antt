use Rattle.std.proofs.Common.{◌≡◌, ◌≤◌, ◌+◌, zero, [], length}
use Rattle.p9_cpp.specs.Macros.{taken}
use Rattle.p9_cpp.proofs.arguments.taken.Given as goal

abbrev pub invariant-loop-t : goal.invariant-loop-t
invariant-loop-t l = record {
  answer : taken l.depth l.part l.args l.left ≡ taken zero [] [] l.initial.left;
  small : l.depth + length l.left ≤ l._total;
}

abbrev pub decreases-loop-t : goal.decreases-loop-t
decreases-loop-t l = length l.left
