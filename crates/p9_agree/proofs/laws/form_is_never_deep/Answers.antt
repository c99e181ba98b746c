use Rattle.p9_agree.proofs.laws.form_is_never_deep.Goals as goal
use Rattle.p9_agree.proofs.Depth.{form_is_never_deep}

pub returns : goal.returns
returns c = form_is_never_deep
