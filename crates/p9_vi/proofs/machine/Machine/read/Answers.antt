use Rattle.p9_base.proofs.Bringing.{brings_none}
use Rattle.p9_vi.proofs.machine.Machine.read.Goals as goal

pub returns-then-count-eq0-clause-brings : goal.returns-then-count-eq0-clause-brings
returns-then-count-eq0-clause-brings g c =
    brings_none g.I.Source.did c.args.input.now c.args.self.now c.answer.new.self c.args.at c.args.count c.if-count-eq0.true c.answer.ensures
