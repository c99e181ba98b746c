use Rattle.std.proofs.Common.{◌≡◌, ◌≤◌, ◌+◌, ◌*◌, All, length}
use Rattle.p9_form.specs.Sharing.{IsSmall}
use Rattle.p9_straight.specs.Layout.{texts_at}
use Rattle.p9_straight.specs.Code.{main_of}
use Rattle.p9_straight.proofs.sizes.texts_at.Given as goal

abbrev pub invariant-loop-rest : goal.invariant-loop-rest
invariant-loop-rest l =
    (texts_at l.here l.rest ≡ texts_at l.at l.files)
    × (main_of l.rest ≡ main_of l.files)
    × All IsSmall l.rest
    × (l.here + 131072 * length l.rest ≤ l.at + 131072 * length l.files)

abbrev pub decreases-loop-rest : goal.decreases-loop-rest
decreases-loop-rest l = length l.rest
