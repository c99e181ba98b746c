use Rattle.p9_pieces.proofs.Within.{instructions_within}
use Rattle.p9_pieces.proofs.laws.piece_laws.Goals as goal

pub returns : goal.returns
returns c = instructions_within
