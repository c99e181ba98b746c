use Rattle.std.proofs.Common.{sym}
use Rattle.p9_region.proofs.Targets.{target-live}
use Rattle.p9_region.proofs.edges.target_at.Goals as goal

pub returns-then-is_live : goal.returns-then-is_live
returns-then-is_live c = target-live c.args.points.now c.args.bits.now c.args.width c.args.v c.args.j c.place_of.result (sym c.if-is_live.ensures) c.place_of.ensures
