use Rattle.std.proofs.Common.{◌≡◌, length}
use Rattle.p9_grammar.specs.Symbols.{is_typedef}
use Rattle.p9_tree_moves.proofs.words.is_typedef.Given as goal

abbrev pub invariant-loop-rest : goal.invariant-loop-rest
invariant-loop-rest l = is_typedef l.rest ≡ is_typedef l.words

abbrev pub decreases-loop-rest : goal.decreases-loop-rest
decreases-loop-rest l = length l.rest
