use Rattle.p9_abs.proofs.StepLaws.{memory_stays, words_stay, silent_steps}
use Rattle.p9_abs.proofs.Growing.{output_grows}
use Rattle.p9_abs.proofs.Fixed.{stack_stays, banned_stay}
use Rattle.p9_abs.proofs.laws.step_laws.Goals as goal

pub returns-clause-memory : goal.returns-clause-memory
returns-clause-memory c = memory_stays

pub returns-clause-words : goal.returns-clause-words
returns-clause-words c = words_stay

pub returns-clause-silent : goal.returns-clause-silent
returns-clause-silent c = silent_steps

pub returns-clause-stack : goal.returns-clause-stack
returns-clause-stack c = stack_stays

pub returns-clause-banned : goal.returns-clause-banned
returns-clause-banned c = banned_stay

pub returns-clause-output : goal.returns-clause-output
returns-clause-output c = output_grows
