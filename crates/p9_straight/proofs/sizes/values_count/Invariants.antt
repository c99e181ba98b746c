use Rattle.std.proofs.Common.{◌≡◌, ◌≤◌, ◌+◌, ◌*◌, length, flat_map}
use Rattle.p9_form.specs.Sharing.{declared_data, initial_in}
use Rattle.p9_straight.proofs.sizes.values_count.Given as goal

abbrev pub invariant-loop-rest : goal.invariant-loop-rest
invariant-loop-rest l =
    (l.count + length (flat_map initial_in l.rest) ≡ length (flat_map initial_in l.declarations))
    × (4 * l.count + declared_data l.rest ≤ declared_data l.declarations)

abbrev pub decreases-loop-rest : goal.decreases-loop-rest
decreases-loop-rest l = length l.rest
