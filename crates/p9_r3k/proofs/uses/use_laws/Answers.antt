use Rattle.p9_r3k.proofs.Doing.{does_what_it_may}
use Rattle.p9_r3k.proofs.Agreeing.{rests_on_what_it_reads, asks_by_what_it_reads}
use Rattle.p9_r3k.proofs.TextApart.{same_with_text, asks_same_with_text}
use Rattle.p9_r3k.proofs.Filling.{filled-uses}
use Rattle.p9_r3k.proofs.uses.use_laws.Goals as goal

pub returns-clause-effects : goal.returns-clause-effects
returns-clause-effects c = does_what_it_may

pub returns-clause-reads : goal.returns-clause-reads
returns-clause-reads c = rests_on_what_it_reads

pub returns-clause-asks : goal.returns-clause-asks
returns-clause-asks c = asks_by_what_it_reads

pub returns-clause-text : goal.returns-clause-text
returns-clause-text c = same_with_text

pub returns-clause-asks_text : goal.returns-clause-asks_text
returns-clause-asks_text c = asks_same_with_text

pub returns-clause-filled : goal.returns-clause-filled
returns-clause-filled c = filled-uses
