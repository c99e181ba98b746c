use Rattle.p9_names.specs.Passes.{is_global}
use Rattle.p9_names.proofs.Listing.{from_turn}
use Rattle.p9_names.proofs.places.globals.Goals as goal

pub loop-i-preserved : goal.loop-i-preserved
loop-i-preserved c =
    from_turn is_global c.args.linked.now c.loop-i.i c.module-module.result.now c.deref.result.now c.loop-i.places.items c.add_globals.new.places.items c.module-module.ensures (cc) c.loop-i.invariant c.in_ok-add_globals.ensures
