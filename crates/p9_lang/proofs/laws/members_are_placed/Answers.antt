use Rattle.p9_lang.proofs.Placing.{members_are_placed}
use Rattle.p9_lang.proofs.laws.members_are_placed.Goals as goal

pub returns : goal.returns
returns c = members_are_placed
