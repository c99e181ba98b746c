use Rattle.std.proofs.Common.{[], ◌++◌, length}
use Rattle.p9_types.specs.Levels.{Adds}
use Rattle.p9_types.specs.Standings.{spread, spread_entries}
use Rattle.p9_types.proofs.level.NextLevel.into_standings.Given as goal

abbrev pub invariant-places : goal.invariant-places
invariant-places l = Adds [] (spread_entries l.initial.self.places.entries) (spread l.standings.items ++ spread_entries l.self.places.entries)

abbrev pub decreases-places : goal.decreases-places
decreases-places l = length l.self.places.entries
