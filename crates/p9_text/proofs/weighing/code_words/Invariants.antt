use Rattle.std.proofs.Common.{◌≡◌, ◌+◌, length, sum_by}
use Rattle.p9_abs.specs.Forms.{weight_of}
use Rattle.p9_text.proofs.weighing.code_words.Given as goal

abbrev pub invariant-loop-rest : goal.invariant-loop-rest
invariant-loop-rest l = l.words + sum_by weight_of l.rest ≡ sum_by weight_of l.code

abbrev pub decreases-loop-rest : goal.decreases-loop-rest
decreases-loop-rest l = length l.rest
