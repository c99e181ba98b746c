use Rattle.std.proofs.Common.{sym}
use Rattle.p9_vi.proofs.Stepping.{halts_plain}
use Rattle.p9_vi.proofs.machine.Machine.step_clear.Goals as goal

pub returns-in-Err : goal.returns-in-Err
returns-in-Err c = halts_plain c.args.self.now c.halt.new.self c.in-Err.cause c.requires.running (sym c.in-Err.ensures.exact) c.halt.ensures
