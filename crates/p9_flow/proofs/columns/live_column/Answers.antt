use Rattle.std.proofs.Common.{length, arith, refl, rules}
use Rattle.p9_flow.proofs.Passing.{sound-zeros, is-column, taken-back}
use Rattle.p9_flow.proofs.columns.live_column.Goals as goal

pub loop-init : goal.loop-init
loop-init c = let h = c.in_ok-column.ensures in (search rules, sound-zeros _ _ (length c.args.acts.now) _ (h.items_if_clones_equal (λ y e. e)))

pub returns : goal.returns
returns c =
    is-column c.args.acts.now c.args.word c.pass.new.column _ (taken-back c.pass.new.column c.loop.column.items c.loop.column.len (omega (arith, c.loop.invariant.0, c.loop.column.ok.0)))
    (omega (arith, c.loop.invariant.0, c.loop.column.ok.0)) c.loop-test.ensures.sound (c.loop-test.ensures.closed refl)
