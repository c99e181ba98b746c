use Rattle.std.proofs.Common.{◌≡◌, ◌+◌, ◌++◌, length}
use Rattle.p9_names.specs.Passes.{places_in, is_global_use}
use Rattle.p9_names.proofs.uses.add_uses.Given as goal

abbrev pub invariant-loop-rest : goal.invariant-loop-rest
invariant-loop-rest l =
    (l.next + length l.rest ≡ length l.symbols)
    × (l.places.items ++ places_in (is_global_use l.symbols) l.number l.next l.rest ≡ l.initial.places.items ++ places_in (is_global_use l.symbols) l.number 0 l.symbols)

abbrev pub decreases-loop-rest : goal.decreases-loop-rest
decreases-loop-rest l = length l.rest
