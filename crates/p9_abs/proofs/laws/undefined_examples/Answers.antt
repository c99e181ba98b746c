use Rattle.p9_abs.proofs.Computed.{kept_word, kept_word_freed, outside, misaligned, overflow, division, no_function, floor, system_stop, gap}
use Rattle.p9_abs.proofs.laws.undefined_examples.Goals as goal

pub returns-clause-kept : goal.returns-clause-kept
returns-clause-kept c = kept_word

pub returns-clause-freed : goal.returns-clause-freed
returns-clause-freed c = kept_word_freed

pub returns-clause-outside : goal.returns-clause-outside
returns-clause-outside c = outside

pub returns-clause-misaligned : goal.returns-clause-misaligned
returns-clause-misaligned c = misaligned

pub returns-clause-overflow : goal.returns-clause-overflow
returns-clause-overflow c = overflow

pub returns-clause-division : goal.returns-clause-division
returns-clause-division c = division

pub returns-clause-no_function : goal.returns-clause-no_function
returns-clause-no_function c = no_function

pub returns-clause-floor : goal.returns-clause-floor
returns-clause-floor c = floor

pub returns-clause-system : goal.returns-clause-system
returns-clause-system c = system_stop

pub returns-clause-gap : goal.returns-clause-gap
returns-clause-gap c = gap
