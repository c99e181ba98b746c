use Rattle.p9_region.proofs.Targets.{place-found, place-missing}
use Rattle.p9_region.proofs.edges.place_of.Goals as goal

pub returns-in-Ok : goal.returns-in-Ok
returns-in-Ok c = place-found c.args.points.now c.args.i c.in-Ok.k c.requires.rising c.in-Ok.ensures.position

pub returns-in-Err : goal.returns-in-Err
returns-in-Err c = place-missing c.args.points.now c.args.i _ c.requires.rising c.in-Err.ensures.position
