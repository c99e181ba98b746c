use Rattle.std.proofs.Common.{◌≡◌, ◌++◌, length}
use Rattle.p9_lang.specs.Files.{names_with_bodies}
use Rattle.p9_lang.specs.Trees.{row_of}
use Rattle.p9_judge.proofs.bodies.names_with_bodies.Given as goal

abbrev pub invariant-items : goal.invariant-items
invariant-items l = l.names ++ names_with_bodies (row_of l.rest) ≡ names_with_bodies (row_of l.items)

abbrev pub decreases-items : goal.decreases-items
decreases-items l = length l.rest
