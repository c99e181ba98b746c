use Rattle.p9_agree.proofs.laws.files_join_as_sources.Goals as goal
use Rattle.p9_agree.proofs.Agreement.{files_join_as_sources}

-- src/laws.rt:5:1
pub returns : goal.returns
returns c = files_join_as_sources
