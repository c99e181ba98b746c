use Rattle.std.proofs.Common.{◌≡◌, length}
use Rattle.p9_grammar.specs.Grammar.{has_type}
use Rattle.p9_tree_moves.proofs.words.has_type.Given as goal

abbrev pub invariant-loop-rest : goal.invariant-loop-rest
invariant-loop-rest l = has_type l.rest ≡ has_type l.words

abbrev pub decreases-loop-rest : goal.decreases-loop-rest
decreases-loop-rest l = length l.rest
