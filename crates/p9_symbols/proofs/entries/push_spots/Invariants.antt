use Rattle.std.proofs.Common.{◌≡◌, ◌++◌, length, map}
use Rattle.p9_abs.specs.Names.{symbol_at}
use Rattle.p9_place.specs.Places.{def_of}
use Rattle.p9_symbols.specs.Held.{place_held}
use Rattle.p9_symbols.specs.Entries.{entries_of}
use Rattle.p9_symbols.proofs.entries.push_spots.Given as goal

abbrev pub invariant-loop-rest : goal.invariant-loop-rest
invariant-loop-rest l =
    l.entries.items ++ entries_of (symbol_at l.layout.program) (place_held l.layout) l.section (map def_of l.rest)
    ≡ l.initial.entries.items ++ entries_of (symbol_at l.layout.program) (place_held l.layout) l.section (map def_of l.spots)

abbrev pub decreases-loop-rest : goal.decreases-loop-rest
decreases-loop-rest l = length l.rest
