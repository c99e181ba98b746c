use Rattle.p9_region.specs.Picking.{AreEdges}
use Rattle.p9_region.proofs.edges.edges.Given as goal

abbrev pub invariant-loop-k : goal.invariant-loop-k
invariant-loop-k l = AreEdges l.steps l.bits l.width l.v l.points l.k l.edges.items
