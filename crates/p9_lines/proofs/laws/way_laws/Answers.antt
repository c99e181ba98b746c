use Rattle.p9_lines.proofs.Leading.{leads_all, entry_leads}
use Rattle.p9_lines.proofs.laws.way_laws.Goals as goal

pub returns : goal.returns
returns c = record { forms = leads_all; entries = entry_leads }
