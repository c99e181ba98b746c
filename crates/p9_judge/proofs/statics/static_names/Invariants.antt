use Rattle.std.proofs.Common.{◌≡◌, ◌++◌, [], length}
use Rattle.p9_lang.specs.Files.{static_names}
use Rattle.p9_scopes.specs.Seen.{level_of}
use Rattle.p9_judge.proofs.statics.static_names.Given as goal

abbrev pub invariant-names : goal.invariant-names
invariant-names l = l.names ++ static_names l.names (level_of l.rest) ≡ static_names [] (level_of l.level)

abbrev pub decreases-names : goal.decreases-names
decreases-names l = length l.rest
