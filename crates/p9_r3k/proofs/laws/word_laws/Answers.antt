use Rattle.p9_r3k.proofs.Begins.{start-words}
use Rattle.p9_r3k.proofs.Words.{run-words}
use Rattle.p9_r3k.proofs.laws.word_laws.Goals as goal

pub returns-clause-start : goal.returns-clause-start
returns-clause-start c = start-words

pub returns-clause-kept : goal.returns-clause-kept
returns-clause-kept c = run-words
