use Rattle.std.proofs.Common.{◌≡◌, reverse, length}
use Rattle.p9_prefix.specs.Growth.{raised}
use Rattle.p9_tree_build.specs.Machines.{stack_of}
use Rattle.p9_decl.proofs.limits.raised.Given as goal

abbrev pub invariant-loop-frame : goal.invariant-loop-frame
invariant-loop-frame l = raised (stack_of (reverse l.rest)) l.height ≡ raised (stack_of (reverse l.frames)) l.start

abbrev pub decreases-loop-frame : goal.decreases-loop-frame
decreases-loop-frame l = length l.rest
