use Rattle.typing_tests.proofs.Symbols.{of_words, one_symbol}
use Rattle.typing_tests.proofs.init.module.Goals as goal

pub returns-clause-types : goal.returns-clause-types
returns-clause-types c = one_symbol c.new-symbols.result c.push.new.self _ c.new-symbols.ensures c.in_ok-push.ensures.ok (of_words c.in_ok-new.field-0 c.in_ok-new.ensures)
