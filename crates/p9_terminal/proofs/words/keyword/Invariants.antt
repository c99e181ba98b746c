use Rattle.std.proofs.Common.{◌≡◌, length}
use Rattle.p9_terminal.specs.Terminals.{all_keywords, keyword_in}
use Rattle.p9_terminal.proofs.words.keyword.Given as goal

abbrev pub invariant-loop-rest : goal.invariant-loop-rest
invariant-loop-rest l = keyword_in l.rest l.name ≡ keyword_in all_keywords l.name

abbrev pub decreases-loop-rest : goal.decreases-loop-rest
decreases-loop-rest l = length l.rest
