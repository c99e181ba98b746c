use Rattle.std.proofs.Common.{◌≡◌, length}
use Rattle.p9_lang.specs.Files.{function_name}
use Rattle.p9_lang.specs.Trees.{row_of}
use Rattle.p9_judge.proofs.bodies.function_name.Given as goal

abbrev pub invariant-parts : goal.invariant-parts
invariant-parts l = function_name (row_of l.rest) ≡ function_name (row_of l.parts)

abbrev pub decreases-parts : goal.decreases-parts
decreases-parts l = length l.rest
