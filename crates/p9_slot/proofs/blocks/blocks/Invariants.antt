use Rattle.std.proofs.Common.{◌≡◌, ◌≤◌, length, drop, reverse}
use Rattle.p9_slot.specs.Blocks.{blocks, is_named}
use Rattle.p9_slot.proofs.blocks.blocks.Given as goal

abbrev pub invariant-loop-i : goal.invariant-loop-i
invariant-loop-i l = (l.i ≤ length l.lines) × (reverse l.stack.items ≡ blocks (is_named l.lines) l.i (drop l.i l.lines))

abbrev pub decreases-loop-i : goal.decreases-loop-i
decreases-loop-i l = l.i
