use Rattle.p9_opening.proofs.Placings.{member_looked_up}
use Rattle.p9_opening.proofs.members.looked_up.Goals as goal

pub returns : goal.returns
returns c = let h = c.get.ensures.lookup in member_looked_up c.args.members.now c.args.number c.get.result h.3 h.1
