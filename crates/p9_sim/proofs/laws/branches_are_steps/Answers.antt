use Rattle.p9_sim.proofs.Every.{branches_are_steps}
use Rattle.p9_sim.proofs.laws.branches_are_steps.Goals as goal

pub returns : goal.returns
returns c = branches_are_steps
