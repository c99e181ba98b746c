use Rattle.p9_flow.proofs.Ordering.{named-at}
use Rattle.p9_flow.proofs.order.add_missing.Goals as goal

pub returns-then-placed-i-clause-there : goal.returns-then-placed-i-clause-there
returns-then-placed-i-clause-there c = named-at c.args.placed.now c.args.order.now.items c.args.i c.requires.named c.if-placed-i.true
