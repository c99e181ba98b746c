use Rattle.std.proofs.Common.{◌≡◌, ◌++◌, ◌+◌, ◌<◌, ◌^◌, length}
use Rattle.p9_form.specs.Sharing.{statements_data}
use Rattle.p9_straight.specs.Code.{statements_code}
use Rattle.p9_straight.specs.Building.{emitted, place_at}
use Rattle.p9_straight.proofs.code.statements.Given as goal

abbrev pub invariant-loop-rest : goal.invariant-loop-rest
invariant-loop-rest l =
    (l.text_at + statements_data l.rest < 2 ^ 32)
    × (l.out.items ++ emitted (statements_code (place_at l.places.entries) l.text_at l.end l.rest) ≡ l.initial.out.items ++ emitted (statements_code (place_at l.places.entries) l.at l.end l.statements))

abbrev pub decreases-loop-rest : goal.decreases-loop-rest
decreases-loop-rest l = length l.rest
