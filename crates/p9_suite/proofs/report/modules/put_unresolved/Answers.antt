use Rattle.std.proofs.Common.{ap}
use Rattle.p9_suite.specs.Answers.{unresolved_line}
use Rattle.p9_suite.proofs.Puts.{line_is}
use Rattle.p9_suite.proofs.report.modules.put_unresolved.Goals as goal

pub returns : goal.returns
returns g c = line_is _ (unresolved_line c.args.name.now c.args.i) _ _ _ _ c.put_one.result (ap (λ n. unresolved_line c.args.name.now n) c.from.ensures) c.put_one.ensures
