use Rattle.std.proofs.Common.{◌≡◌, ◌++◌, length}
use Rattle.p9_cpp.specs.Items.{cut, finished, items_of, end_of}
use Rattle.p9_cpp.proofs.items.items_of.Given as goal

abbrev pub invariant-loop-t : goal.invariant-loop-t
invariant-loop-t l = record {
  items : l.list ++ finished l.current (cut l.left) ≡ items_of l.fn.tokens;
  end : end_of l.left ≡ end_of l.fn.tokens;
}

abbrev pub decreases-loop-t : goal.decreases-loop-t
decreases-loop-t l = length l.left
