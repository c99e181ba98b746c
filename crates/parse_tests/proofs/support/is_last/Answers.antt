use Rattle.parse_tests.proofs.Lasts.{ends_in}
use Rattle.parse_tests.proofs.support.is_last.Goals as goal

pub returns-in-End : goal.returns-in-End
returns-in-End c = λ t. ends_in c.args.tokens.now c.in-Some.field-0-1.now c.in-Some.last.now c.in-Some.ensures.cases.0 c.in-End.is
