use Rattle.p9_sig.proofs.Telling.{texts_tell_types}
use Rattle.p9_sig.proofs.laws.texts_tell_types.Goals as goal

pub returns : goal.returns
returns c = texts_tell_types
