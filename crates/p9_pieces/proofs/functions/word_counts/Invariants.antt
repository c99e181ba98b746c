use Rattle.std.proofs.Common.{◌≡◌, ◌++◌, length}
use Rattle.p9_pieces.specs.Ways.{words_from}
use Rattle.p9_pieces.proofs.functions.word_counts.Given as goal

abbrev pub invariant-loop-rest : goal.invariant-loop-rest
invariant-loop-rest l = l.words.items ++ words_from l.count l.rest ≡ words_from 0 l.code

abbrev pub decreases-loop-rest : goal.decreases-loop-rest
decreases-loop-rest l = length l.rest
