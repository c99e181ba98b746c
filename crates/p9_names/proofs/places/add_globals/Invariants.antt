use Rattle.std.proofs.Common.{◌≡◌, ◌+◌, ◌++◌, length}
use Rattle.p9_names.specs.Passes.{places_in, is_global}
use Rattle.p9_names.proofs.places.add_globals.Given as goal

abbrev pub invariant-loop-rest : goal.invariant-loop-rest
invariant-loop-rest l =
    (l.next + length l.rest ≡ length l.symbols)
    × (l.places.items ++ places_in (is_global l.symbols) l.number l.next l.rest ≡ l.initial.places.items ++ places_in (is_global l.symbols) l.number 0 l.symbols)

abbrev pub decreases-loop-rest : goal.decreases-loop-rest
decreases-loop-rest l = length l.rest
