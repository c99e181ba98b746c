use Rattle.p9_program.proofs.Beginning.{programs_begin}
use Rattle.p9_program.proofs.laws.programs_begin.Goals as goal

pub returns : goal.returns
returns c = programs_begin
