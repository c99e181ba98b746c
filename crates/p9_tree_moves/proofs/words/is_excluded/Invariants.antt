use Rattle.std.proofs.Common.{◌≡◌, length}
use Rattle.std.specs.List.{list_any}
use Rattle.p9_grammar.specs.Grammar.{share, excludes}
use Rattle.p9_tree_moves.specs.Moves.{share_of}
use Rattle.p9_tree_moves.proofs.words.is_excluded.Given as goal

abbrev pub invariant-loop-rest : goal.invariant-loop-rest
invariant-loop-rest l = list_any (λ v. excludes (share_of l.new) (share v)) l.rest ≡ list_any (λ v. excludes (share_of l.new) (share v)) l.words

abbrev pub decreases-loop-rest : goal.decreases-loop-rest
decreases-loop-rest l = length l.rest
