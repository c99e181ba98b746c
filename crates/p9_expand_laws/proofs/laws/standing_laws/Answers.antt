use Rattle.p9_expand_laws.proofs.Standing.{entries_stand, instructions_stand, start_stands}
use Rattle.p9_expand_laws.proofs.laws.standing_laws.Goals as goal

pub returns : goal.returns
returns c = record { entries = entries_stand; instructions = instructions_stand; start = start_stands }
