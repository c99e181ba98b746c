use Rattle.p9_entry.proofs.Matching.{entries_are_matched}
use Rattle.p9_entry.proofs.laws.entries.Goals as goal

pub returns : goal.returns
returns c = entries_are_matched
