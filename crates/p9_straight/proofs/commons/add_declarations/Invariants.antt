use Rattle.std.proofs.Common.{◌≤◌, ◌+◌, length, flat_map}
use Rattle.p9_form.specs.Sharing.{declared_data, tentative_in}
use Rattle.p9_straight.specs.Building.{AddsTo}
use Rattle.p9_straight.proofs.commons.add_declarations.Given as goal

abbrev pub invariant-loop-rest : goal.invariant-loop-rest
invariant-loop-rest l =
    AddsTo l.initial.places.entries l.initial.next (flat_map tentative_in l.declarations) l.places.entries l.next (flat_map tentative_in l.rest)
    × (l.next + declared_data l.rest ≤ l.initial.next + declared_data l.declarations)

abbrev pub decreases-loop-rest : goal.decreases-loop-rest
decreases-loop-rest l = length l.rest
