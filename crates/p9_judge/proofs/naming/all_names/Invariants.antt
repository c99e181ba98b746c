use Rattle.std.proofs.Common.{◌≡◌, ◌++◌, length}
use Rattle.p9_judge.proofs.naming.all_names.Given as goal

abbrev pub invariant-names : goal.invariant-names
invariant-names l = l.names ++ l.rest ≡ l.list

abbrev pub decreases-names : goal.decreases-names
decreases-names l = length l.rest
