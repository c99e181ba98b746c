use Rattle.std.proofs.Common.{◌∙◌, ap}
use Rattle.p9_r3k.specs.Table.{decoded}
use Rattle.p9_r3k.proofs.Again.{again}
use Rattle.p9_r3k.proofs.code.decode.Goals as goal

pub returns-clause-again : goal.returns-clause-again
returns-clause-again c = λ i fits e. c.any_row.ensures.exact ∙ (ap decoded e ∙ again i fits)
