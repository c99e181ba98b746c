use Rattle.std.proofs.Common.{◌≡◌, reverse, length}
use Rattle.p9_grammar.specs.Scopes.{is_type}
use Rattle.p9_tree_build.proofs.scope.Scope.is_type.Given as goal

abbrev pub invariant-loop-level : goal.invariant-loop-level
invariant-loop-level l = is_type (reverse l.rest) l.name ≡ is_type (reverse l.initial.rest) l.name

abbrev pub decreases-loop-level : goal.decreases-loop-level
decreases-loop-level l = length l.rest
