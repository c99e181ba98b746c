use Rattle.p9_straight.proofs.Compiled.{compiled_ends}
use Rattle.p9_straight.proofs.building.compile.Goals as goal

pub returns-clause-ends : goal.returns-clause-ends
returns-clause-ends c = compiled_ends c.image_bytes.result c.args.files.now c.image_bytes.ensures.image c.requires.form c.requires.small c.requires.count c.requires.joined
