use Rattle.std.proofs.Common.{ap}
use Rattle.p9_suite.specs.Answers.{main_type_line}
use Rattle.p9_suite.proofs.Puts.{line_is}
use Rattle.p9_suite.proofs.report.modules.put_main_type.Goals as goal

pub returns : goal.returns
returns g c = line_is _ (main_type_line c.args.i) _ _ _ _ c.put_number_line.result (ap (λ n. main_type_line n) c.from.ensures) c.put_number_line.ensures
