use Rattle.p9_vi.specs.Steps.{PlainRun}
use Rattle.p9_vi.proofs.machine.Machine.run_plain.Given as goal

abbrev pub invariant-loop-done : goal.invariant-loop-done
invariant-loop-done l = PlainRun l.done l.fn.self l.self
