use Rattle.p9_cpp.proofs.Told.{held_same, tells}
use Rattle.p9_cpp.specs.Units.{unit}
use Rattle.p9_cpp.proofs.whole.preprocess.Goals as goal

pub returns-clause-held : goal.returns-clause-held
returns-clause-held g c =
    held_same g.F.Files.did g.F.Files.held g.F.Files.faults g.met.F.Files.means c.args.files.now c.read_unit.new.files c.read_unit.result (unit c.args.name.now) c.read_unit.ensures.unit

pub returns-clause-told : goal.returns-clause-told
returns-clause-told g c =
    tells g.F.Files.did g.F.Files.held g.F.Files.faults g.met.F.Files.means c.args.files.now c.read_unit.new.files c.args.name.now c.read_unit.result c.read_unit.ensures.unit
