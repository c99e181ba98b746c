use Rattle.p9_refine.proofs.Starting.{program_refines}
use Rattle.p9_refine.proofs.Placed.{maps_place}
use Rattle.p9_refine.proofs.laws.refinement_laws.Goals as goal

pub returns : goal.returns
returns c = record { refines = program_refines; placed = maps_place }
