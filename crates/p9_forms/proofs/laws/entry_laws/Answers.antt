use Rattle.p9_forms.proofs.Entries.{entry_does, start_does}
use Rattle.p9_forms.proofs.laws.entry_laws.Goals as goal

pub returns : goal.returns
returns c = record { entries = entry_does; start = start_does }
