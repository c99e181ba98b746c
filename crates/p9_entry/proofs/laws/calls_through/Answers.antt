use Rattle.p9_entry.proofs.Through.{through_is_right}
use Rattle.p9_entry.proofs.laws.calls_through.Goals as goal

pub returns : goal.returns
returns c = through_is_right
