use Rattle.std.proofs.Common.{◌≤◌, ◌+◌, length}
use Rattle.p9_form.specs.Sharing.{declared_data}
use Rattle.p9_straight.specs.Building.{LaysTo, variable_data}
use Rattle.p9_straight.proofs.layout.lay_declarations.Given as goal

abbrev pub invariant-loop-rest : goal.invariant-loop-rest
invariant-loop-rest l =
    LaysTo l.start l.initial.places.entries l.initial.init.items (variable_data l.declarations) l.places.entries l.init.items (variable_data l.rest)
    × (length l.init.items + declared_data l.rest ≤ length l.initial.init.items + declared_data l.declarations)

abbrev pub decreases-loop-rest : goal.decreases-loop-rest
decreases-loop-rest l = length l.rest
