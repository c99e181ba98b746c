use Rattle.std.proofs.Common.{◌≡◌, length}
use Rattle.p9_lang.specs.Declarators.{head_from, head_of}
use Rattle.p9_declare.specs.Told.{told_said}
use Rattle.p9_declare.proofs.head.head_of.Given as goal

abbrev pub invariant-words : goal.invariant-words
invariant-words l = head_from (told_said l.said) l.rest ≡ head_of l.words

abbrev pub decreases-words : goal.decreases-words
decreases-words l = length l.rest
