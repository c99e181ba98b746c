use Rattle.p9_program.proofs.Example.{small_program}
use Rattle.p9_program.proofs.laws.small_program.Goals as goal

pub returns : goal.returns
returns c = small_program
