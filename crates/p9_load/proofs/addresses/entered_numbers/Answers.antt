use Rattle.std.proofs.Common.{◌≡◌, ◌-◌, suc, ap, ◌∙◌, arith}
use Rattle.p9_load.proofs.Numbers.{least-step, done-step}
use Rattle.p9_r3k.specs.Delayed.{least}
use Rattle.std.proofs.Common.{drop, min, get_or}
use Rattle.p9_load.proofs.addresses.entered_numbers.Goals as goal

pub loop-left-preserved : goal.loop-left-preserved
loop-left-preserved c =
    let moved = c.args.moved.now in
    let before = c.loop-left.left in
    let step : before ≡ suc (before - 1) = omega arith in
    let here : c.min-least.result ≡ least c.args.count (drop (before - 1) moved) =
    c.min-least.ensures ∙ ap (min (get_or moved (before - 1) 0)) c.loop-left.invariant.least_is ∙ least-step c.args.count moved before (before - 1) step c.loop-left.invariant.within in
    record {
      within = omega arith;
      least_is = here;
      done = done-step c.args.count moved c.loop-left.numbers.items before (before - 1) c.min-least.result step c.loop-left.invariant.within c.loop-left.invariant.done here;
    }
