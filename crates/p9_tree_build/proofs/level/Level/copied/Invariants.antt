use Rattle.std.proofs.Common.{◌≡◌, reverse, take}
use Rattle.p9_tree_build.proofs.level.Level.copied.Given as goal

abbrev pub invariant-loop-declared : goal.invariant-loop-declared
invariant-loop-declared l = l.copy ≡ reverse (take l.declared-index l.declared-items)
