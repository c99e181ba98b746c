use Rattle.p9_program.proofs.Codes.{codes_are_right}
use Rattle.p9_program.proofs.laws.codes_are_right.Goals as goal

pub returns : goal.returns
returns c = codes_are_right
