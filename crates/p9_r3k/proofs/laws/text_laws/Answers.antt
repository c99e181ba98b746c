use Rattle.p9_r3k.proofs.Kept.{run-keeps}
use Rattle.p9_r3k.proofs.Begins.{start-laid, run-word}
use Rattle.p9_r3k.proofs.laws.text_laws.Goals as goal

pub returns-clause-start : goal.returns-clause-start
returns-clause-start c = start-laid

pub returns-clause-kept : goal.returns-clause-kept
returns-clause-kept c = run-keeps

pub returns-clause-words : goal.returns-clause-words
returns-clause-words c = run-word
