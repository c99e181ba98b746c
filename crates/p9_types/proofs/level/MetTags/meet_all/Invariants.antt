use Rattle.std.proofs.Common.{◌≡◌, ◌||◌, ℕ, length}
use Rattle.p9_types.specs.Standings.{stands_in, met_by}
use Rattle.p9_types.proofs.level.MetTags.meet_all.Given as goal

abbrev pub invariant-standings : goal.invariant-standings
invariant-standings l =
    (i : ℕ) → (stands_in i l.rest || met_by l.self i) ≡ (stands_in i l.level || met_by l.initial.self i)

abbrev pub decreases-standings : goal.decreases-standings
decreases-standings l = length l.rest
