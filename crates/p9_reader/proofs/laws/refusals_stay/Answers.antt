use Rattle.p9_reader.proofs.Answering.{refused_early}
use Rattle.p9_reader.proofs.laws.refusals_stay.Goals as goal

pub returns : goal.returns
returns c = refused_early
