use Rattle.std.proofs.Common.{◌≡◌, ◌++◌, length, reverse}
use Rattle.p9_declare.proofs.bodies.copied_level.Given as goal

abbrev pub invariant-names : goal.invariant-names
invariant-names l = reverse l.rest ++ l.copy ≡ reverse l.initial.rest

abbrev pub decreases-names : goal.decreases-names
decreases-names l = length l.rest
