use Rattle.std.proofs.Common.{◌≡◌, ◌++◌, replicate}
use Rattle.p9_r3k.specs.Delayed.{noop}
use Rattle.p9_slot.proofs.placing.push_noops.Given as goal

abbrev pub invariant-loop-left : goal.invariant-loop-left
invariant-loop-left l = l.new.items ++ replicate l.left noop ≡ l.initial.new.items ++ replicate l.count noop

abbrev pub decreases-loop-left : goal.decreases-loop-left
decreases-loop-left l = l.left
