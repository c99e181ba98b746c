use Rattle.std.proofs.Common.{eq-eqb}
use Rattle.p9_types.specs.Sightings.{told_sought}
use Rattle.p9_types.proofs.Loops.{stands_here, stands_elsewhere, unequal}
use Rattle.p9_types.proofs.substructure.standing_here.Goals as goal

pub returns-then-standing-tag : goal.returns-then-standing-tag
returns-then-standing-tag c = stands_here c.args.tag c.args.standing (told_sought c.repeated.result) c.kept_offset.result (eq-eqb c.args.standing.tag c.args.tag c.if-standing-tag.true) c.kept_offset.ensures c.repeated.ensures

pub returns-else-standing-tag : goal.returns-else-standing-tag
returns-else-standing-tag c = stands_elsewhere c.args.tag c.args.standing (unequal c.args.standing.tag c.args.tag c.if-standing-tag.false)
