use Rattle.p9_keeps.proofs.Keeping.{framed-keeps}
use Rattle.p9_keeps.proofs.laws.keeps_law.Goals as goal

pub returns : goal.returns
returns c = framed-keeps
