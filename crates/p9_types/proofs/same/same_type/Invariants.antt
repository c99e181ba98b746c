use Rattle.std.proofs.Common.{◌≡◌}
use Rattle.p9_lang.specs.Types.{type_of}
use Rattle.p9_lang.specs.Conversions.{same_type}
use Rattle.p9_types.specs.Pairs.{same_pairs, pairs_weight}
use Rattle.p9_types.proofs.same.same_type.Given as goal

abbrev pub invariant-pairs : goal.invariant-pairs
invariant-pairs l = same_pairs l.pairs.items ≡ same_type (type_of l.left) (type_of l.right)

abbrev pub decreases-pairs : goal.decreases-pairs
decreases-pairs l = pairs_weight l.pairs.items
