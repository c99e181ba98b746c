use Rattle.std.proofs.Common.{◌≡◌, ◌+◌, length, sum_by}
use Rattle.p9_text.specs.Weights.{routine_weight, text_weight}
use Rattle.p9_text.proofs.weighing.all_words.Given as goal

abbrev pub invariant-loop-rest : goal.invariant-loop-rest
invariant-loop-rest l = l.words + sum_by routine_weight l.rest ≡ text_weight l.routines

abbrev pub decreases-loop-rest : goal.decreases-loop-rest
decreases-loop-rest l = length l.rest
