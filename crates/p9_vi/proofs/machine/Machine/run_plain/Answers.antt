use Rattle.p9_vi.proofs.Stepping.{plain_none, plain_more}
use Rattle.p9_vi.proofs.machine.Machine.run_plain.Goals as goal

pub loop-done-init : goal.loop-done-init
loop-done-init c = plain_none c.args.self.now

pub loop-done-preserved : goal.loop-done-preserved
loop-done-preserved c = plain_more c.loop-done.done c.args.self.now c.loop-done.self c.step_plain.new.self c.loop-done.invariant c.if-not-step_plain.ensures
