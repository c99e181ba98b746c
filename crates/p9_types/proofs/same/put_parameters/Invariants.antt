use Rattle.std.proofs.Common.{length}
use Rattle.p9_types.proofs.Comparing.{Compares}
use Rattle.p9_types.proofs.same.put_parameters.Given as goal

abbrev pub invariant-parameters : goal.invariant-parameters
invariant-parameters l = Compares l.initial.pairs.items l.pairs.items l.left l.right l.lefts l.rights

abbrev pub decreases-parameters : goal.decreases-parameters
decreases-parameters l = length l.lefts
