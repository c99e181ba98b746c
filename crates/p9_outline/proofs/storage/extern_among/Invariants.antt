use Rattle.std.proofs.Common.{◌≡◌, length}
use Rattle.p9_lang.specs.Declarators.{storage_of}
use Rattle.p9_outline.proofs.storage.extern_among.Given as goal

abbrev pub invariant-words : goal.invariant-words
invariant-words l = storage_of l.rest ≡ storage_of l.words

abbrev pub decreases-words : goal.decreases-words
decreases-words l = length l.rest
