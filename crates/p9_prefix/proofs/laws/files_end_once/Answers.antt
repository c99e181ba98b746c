use Rattle.p9_prefix.proofs.Endless.{ends_once}
use Rattle.p9_prefix.proofs.laws.files_end_once.Goals as goal

pub returns : goal.returns
returns c = ends_once
