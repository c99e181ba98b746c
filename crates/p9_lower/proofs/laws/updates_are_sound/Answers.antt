use Rattle.p9_lower.proofs.Verdicts as verdicts
use Rattle.p9_lower.proofs.laws.updates_are_sound.Goals as goal

pub returns : goal.returns
returns c = verdicts.updates_are_sound
