use Rattle.std.proofs.Common.{◌≡◌, length, map, reverse}
use Rattle.p9_lang.specs.Types.{type_of}
use Rattle.p9_scopes.specs.State.{known_of}
use Rattle.p9_declare.specs.Closing.{with_given, closed_inwards}
use Rattle.p9_declare.specs.Told.{told_by, steps_of}
use Rattle.p9_declare.proofs.closing.close_steps.Given as goal

abbrev pub invariant-steps : goal.invariant-steps
invariant-steps l =
    closed_inwards (told_by l.lengths.by) (type_of l.ty) (reverse (map (with_given l.lengths.given) (steps_of l.rest))) (known_of l.known)
    ≡ closed_inwards (told_by l.lengths.by) (type_of l.base) (reverse (map (with_given l.lengths.given) (steps_of l.steps))) (known_of l.fn.known)

abbrev pub decreases-steps : goal.decreases-steps
decreases-steps l = length l.rest
