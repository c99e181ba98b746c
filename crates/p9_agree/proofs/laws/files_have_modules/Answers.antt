use Rattle.p9_agree.proofs.laws.files_have_modules.Goals as goal
use Rattle.p9_agree.proofs.Judging.{files_have_modules}

pub returns : goal.returns
returns c = files_have_modules
