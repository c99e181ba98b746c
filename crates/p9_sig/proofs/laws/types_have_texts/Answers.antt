use Rattle.p9_sig.proofs.Ending.{types_have_texts}
use Rattle.p9_sig.proofs.laws.types_have_texts.Goals as goal

pub returns : goal.returns
returns c = types_have_texts
