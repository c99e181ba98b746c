use Rattle.std.proofs.Common.{◌≤◌, ◌+◌, ◌*◌, All, length}
use Rattle.p9_form.specs.Sharing.{tentatives, IsSmall}
use Rattle.p9_straight.specs.Building.{AddsTo}
use Rattle.p9_straight.proofs.commons.add_files.Given as goal

abbrev pub invariant-loop-rest : goal.invariant-loop-rest
invariant-loop-rest l =
    AddsTo l.initial.places.entries l.initial.next (tentatives l.files) l.places.entries l.next (tentatives l.rest)
    × All IsSmall l.rest
    × (l.next + 131072 * length l.rest ≤ l.initial.next + 131072 * length l.files)

abbrev pub decreases-loop-rest : goal.decreases-loop-rest
decreases-loop-rest l = length l.rest
