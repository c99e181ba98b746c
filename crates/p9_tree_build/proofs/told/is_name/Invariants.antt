use Rattle.std.proofs.Common.{◌≡◌}
use Rattle.p9_grammar.specs.Trees.{tree_of}
use Rattle.p9_grammar.specs.Scopes.{is_name}
use Rattle.p9_tree_build.proofs.told.is_name.Given as goal

abbrev pub invariant-loop-inner : goal.invariant-loop-inner
invariant-loop-inner l = is_name (tree_of l.inner) ≡ is_name (tree_of l.node)
