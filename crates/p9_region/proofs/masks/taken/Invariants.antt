use Rattle.std.proofs.Common.{take}
use Rattle.p9_region.specs.Masks.{IsUnion}
use Rattle.p9_region.proofs.masks.taken.Given as goal

abbrev pub invariant-loop-i : goal.invariant-loop-i
invariant-loop-i l = IsUnion (take l.i-index l.points) l.used l.mask
