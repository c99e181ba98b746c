use Rattle.std.proofs.Common.{◌≡◌, ◌||◌, ℕ, List, length}
use Rattle.p9_lang.specs.Names.{is_among}
use Rattle.p9_outline.specs.Held.{has_name}
use Rattle.p9_outline.proofs.statics.set_of.Given as goal

abbrev pub invariant-names : goal.invariant-names
invariant-names l = (q : List ℕ) → (has_name l.set.set.keys q || is_among l.rest q) ≡ is_among l.names q

abbrev pub decreases-names : goal.decreases-names
decreases-names l = length l.rest
