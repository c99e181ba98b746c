use Rattle.p9_verdict.proofs.Bodies.{member_looked_up}
use Rattle.p9_verdict.proofs.access.member_in_body.Goals as goal

pub returns : goal.returns
returns c = let h = c.get.ensures.lookup in member_looked_up c.args.members.now c.args.number c.get.result h.3 h.1
