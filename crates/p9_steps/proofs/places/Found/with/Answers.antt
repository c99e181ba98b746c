use Rattle.p9_steps.proofs.Knowing.{known_next}
use Rattle.p9_steps.proofs.places.Found.with.Goals as goal

pub invariant_of-result : goal.invariant_of-result
invariant_of-result c = record {
  known = known_next c.args.self.names.locals.keys c.args.self.names.globals.keys _ _ c.args.self.symbols _ _ c.args.symbol c.args.self.known c.in_ok-note.ensures.noted c.symbols.view_is c.in_ok-push.ensures.items;
}
