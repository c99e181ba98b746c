use Rattle.p9_load_laws.proofs.Showing.{machine_shows}
use Rattle.p9_load_laws.proofs.laws.executable_laws.Goals as goal

pub returns : goal.returns
returns c = machine_shows
