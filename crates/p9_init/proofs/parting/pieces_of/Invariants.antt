use Rattle.std.proofs.Common.{◌-◌, length}
use Rattle.p9_init.proofs.Parts.{StandsAt}
use Rattle.p9_init.proofs.parting.pieces_of.Given as goal

abbrev pub invariant-loop-at : goal.invariant-loop-at
invariant-loop-at l = StandsAt l.cells l.pieces.items l.raw.items l.at

abbrev pub decreases-loop-at : goal.decreases-loop-at
decreases-loop-at l = length l.cells - l.at
