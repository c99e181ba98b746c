use Rattle.std.proofs.Common.{refl}
use Rattle.p9_obj.proofs.Fresh.{fresh_turn}
use Rattle.p9_obj.proofs.distinct.are_distinct.Goals as goal

pub loop-rest-preserved : goal.loop-rest-preserved
loop-rest-preserved c =
    fresh_turn c.loop-rest.seen.locals.keys c.loop-rest.seen.globals.keys c.args.symbols.now c.loop-rest.rest.now _ c.symbol-item.result c.note.new.seen.locals.keys c.note.new.seen.globals.keys c.in_ok-note.field-0 c.in-len1-up.len_at_least c.symbol-item.is refl c.in_ok-note.ensures.new c.if-not-branch.false c.in_ok-note.ensures.noted c.loop-rest.invariant
