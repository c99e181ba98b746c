use Rattle.std.proofs.Common.{◌≡◌}
use Rattle.p9_lang.specs.Files.{declarator_name}
use Rattle.p9_lang.specs.Trees.{syntax_of, nodes_of}
use Rattle.p9_judge.proofs.bodies.declarator_name.Given as goal

abbrev pub invariant-inwards : goal.invariant-inwards
invariant-inwards l = declarator_name (syntax_of l.inner) ≡ declarator_name (syntax_of l.node)

abbrev pub decreases-inwards : goal.decreases-inwards
decreases-inwards l = nodes_of (syntax_of l.inner)
