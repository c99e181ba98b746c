use Rattle.p9_agree.proofs.laws.form_comes.Goals as goal
use Rattle.p9_agree.proofs.Depth.{form_comes}

pub returns : goal.returns
returns c = form_comes
