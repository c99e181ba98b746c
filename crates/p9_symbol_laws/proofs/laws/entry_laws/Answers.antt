use Rattle.p9_symbol_laws.proofs.Rising.{entries-for-each, entries-rise}
use Rattle.p9_symbol_laws.proofs.laws.entry_laws.Goals as goal

pub returns-clause-each : goal.returns-clause-each
returns-clause-each c = entries-for-each

pub returns-clause-rise : goal.returns-clause-rise
returns-clause-rise c = entries-rise
