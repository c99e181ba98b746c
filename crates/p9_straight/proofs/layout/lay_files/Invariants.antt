use Rattle.std.proofs.Common.{◌≤◌, ◌+◌, ◌*◌, All, length, flat_map}
use Rattle.p9_form.specs.Sharing.{IsSmall}
use Rattle.p9_straight.specs.Layout.{data_of}
use Rattle.p9_straight.specs.Building.{LaysTo}
use Rattle.p9_straight.proofs.layout.lay_files.Given as goal

abbrev pub invariant-loop-rest : goal.invariant-loop-rest
invariant-loop-rest l =
    LaysTo l.start l.initial.places.entries l.initial.init.items (flat_map data_of l.files) l.places.entries l.init.items (flat_map data_of l.rest)
    × All IsSmall l.rest
    × (length l.init.items + 131072 * length l.rest ≤ length l.initial.init.items + 131072 * length l.files)

abbrev pub decreases-loop-rest : goal.decreases-loop-rest
decreases-loop-rest l = length l.rest
