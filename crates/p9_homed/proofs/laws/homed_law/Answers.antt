use Rattle.p9_homed.proofs.Rows.{homed-forms}
use Rattle.p9_homed.proofs.laws.homed_law.Goals as goal

pub returns : goal.returns
returns c = homed-forms
