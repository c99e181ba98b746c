use Rattle.p9_flow.specs.Acts.{AreFitBelow}
use Rattle.p9_flow.proofs.candidates.candidates_of.Given as goal

abbrev pub invariant-loop-a : goal.invariant-loop-a
invariant-loop-a l = AreFitBelow l.autos l.code l.a-index l.candidates.items
