use Rattle.p9_systems.proofs.Systems.{systems_are_right}
use Rattle.p9_systems.proofs.laws.systems_are_right.Goals as goal

pub returns : goal.returns
returns c = systems_are_right
