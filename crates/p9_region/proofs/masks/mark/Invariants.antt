use Rattle.std.proofs.Common.{take}
use Rattle.p9_region.specs.Masks.{AreMarked}
use Rattle.p9_region.proofs.masks.mark.Given as goal

abbrev pub invariant-loop-i : goal.invariant-loop-i
invariant-loop-i l = AreMarked (take l.i-index l.points) l.initial.used l.g l.used
