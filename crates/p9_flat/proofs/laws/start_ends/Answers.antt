use Rattle.p9_flat.proofs.Ends as ends
use Rattle.p9_flat.proofs.laws.start_ends.Goals as goal

pub returns : goal.returns
returns c = ends.start_ends
