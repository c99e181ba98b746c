use Rattle.p9_object.proofs.Reading.{breaks_at_first, tells_versions}
use Rattle.p9_object.proofs.laws.faults_tell_the_first_break.Goals as goal

pub returns-clause-place : goal.returns-clause-place
returns-clause-place c = breaks_at_first

pub returns-clause-version : goal.returns-clause-version
returns-clause-version c = tells_versions
