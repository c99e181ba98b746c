use Rattle.std.proofs.Common.{◌≡◌, reverse, length}
use Rattle.p9_lang.specs.Scopes.{in_levels}
use Rattle.p9_scopes.specs.Seen.{levels_of}
use Rattle.p9_scopes.proofs.scopes.find_in.Given as goal

abbrev pub invariant-levels : goal.invariant-levels
invariant-levels l = in_levels l.name (levels_of (reverse l.rest)) ≡ in_levels l.name (levels_of (reverse l.initial.rest))

abbrev pub decreases-levels : goal.decreases-levels
decreases-levels l = length l.rest
