use Rattle.std.proofs.Common.{◌≡◌, ◌+◌, ◌++◌, false, get_or, length}
use Rattle.p9_expand.specs.Program.{marked}
use Rattle.p9_expand.proofs.targets.marked.Given as goal

abbrev pub invariant-loop-rest : goal.invariant-loop-rest
invariant-loop-rest l = record {
  count : l.number + length l.rest ≡ length l.lines;
  made : l.new.items ++ marked (λ i. get_or l.flags i false) l.number l.rest ≡ marked (λ i. get_or l.flags i false) 0 l.lines;
}

abbrev pub decreases-loop-rest : goal.decreases-loop-rest
decreases-loop-rest l = length l.rest
