use Rattle.std.proofs.Common.{◌≡◌}
use Rattle.p9_homes.specs.Tables.{home_below}
use Rattle.p9_homes.proofs.holders.home_of.Given as goal

abbrev pub invariant-loop-g : goal.invariant-loop-g
invariant-loop-g l = l.home ≡ home_below l.table l.i l.v l.g
