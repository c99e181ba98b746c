use Rattle.p9_flat.proofs.Ends as ends
use Rattle.p9_flat.proofs.laws.programs_are_brief.Goals as goal

pub returns : goal.returns
returns c = ends.programs_are_brief
