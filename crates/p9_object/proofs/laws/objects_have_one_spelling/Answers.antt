use Rattle.p9_object.proofs.Reading.{reads_what_is_spelled, reads_only_spellings}
use Rattle.p9_object.proofs.laws.objects_have_one_spelling.Goals as goal

pub returns-clause-read : goal.returns-clause-read
returns-clause-read c = reads_what_is_spelled

pub returns-clause-only : goal.returns-clause-only
returns-clause-only c = reads_only_spellings
