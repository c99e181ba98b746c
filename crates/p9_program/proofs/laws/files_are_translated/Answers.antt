use Rattle.p9_program.proofs.Files.{files_are_translated}
use Rattle.p9_program.proofs.laws.files_are_translated.Goals as goal

pub returns : goal.returns
returns c = files_are_translated
