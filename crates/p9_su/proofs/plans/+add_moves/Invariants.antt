use Rattle.p9_su.specs.Shapes.{leaves_of}
use Rattle.p9_su.proofs.plans.+add_moves.Given as goal

abbrev pub decreases-add_moves : goal.decreases-add_moves
decreases-add_moves l = leaves_of l.shape.now
