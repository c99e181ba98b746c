use Rattle.p9_straight.proofs.Compiled.{spelled_stripped}
use Rattle.p9_straight.proofs.building.image_bytes.Goals as goal

pub returns-clause-stripped : goal.returns-clause-stripped
returns-clause-stripped c = spelled_stripped c.write_aout.result c.in_ok-image.image c.in_ok-image.ensures.no_symbols c.write_aout.ensures.bytes c.write_aout.ensures.read_back
