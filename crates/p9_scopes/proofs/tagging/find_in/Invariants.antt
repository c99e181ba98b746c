use Rattle.std.proofs.Common.{◌≡◌, reverse, length}
use Rattle.p9_lang.specs.Scopes.{tag_in_levels}
use Rattle.p9_scopes.specs.Seen.{tag_levels_of}
use Rattle.p9_scopes.proofs.tagging.find_in.Given as goal

abbrev pub invariant-levels : goal.invariant-levels
invariant-levels l = tag_in_levels l.name (tag_levels_of (reverse l.rest)) ≡ tag_in_levels l.name (tag_levels_of (reverse l.initial.rest))

abbrev pub decreases-levels : goal.decreases-levels
decreases-levels l = length l.rest
