use Rattle.std.proofs.Common.{◌+◌, ◌∙◌, None, Some, refl, arith}
use Rattle.p9_base.specs.Calls.{Input, Out}
use Rattle.p9_base.proofs.CallLists.{ran_none, ran_then}
use Rattle.p9_vi.proofs.Stepping.{runs_none, runs_more, runs_plain, whole_told, ended_told, read_fault_told, write_fault_told}
use Rattle.p9_vi.proofs.Tying.{ties_none, ties_on, ties_more, ties_stop, ties_read_fault, ties_write_fault}
use Rattle.p9_vi.proofs.simulation.simulate.Goals as goal

pub loop-done-init : goal.loop-done-init
loop-done-init g c = record {
  within = omega arith;
  runs = runs_none (g.I.Source.left c.args.input.now) (g.O.Sink.sofar c.args.out.now) c.args.m.now;
  unfailed_input = refl;
  unfailed_out = refl;
  calls = ran_none g.I.Source.did g.O.Sink.did c.args.input.now c.args.out.now;
  tied = ties_none g.I.Source.did g.O.Sink.did c.args.input.now c.args.out.now c.args.m.now;
}

pub returns-then-done-budget-clause-runs : goal.returns-then-done-budget-clause-runs
returns-then-done-budget-clause-runs g c =
    whole_told c.stop.result c.args.budget (c.loop-done.done + c.run_plain-done.result) (g.I.Source.left c.args.input.now) (g.I.Source.left c.loop-done.input)
    (g.O.Sink.sofar c.args.out.now) (g.O.Sink.sofar c.loop-done.out) c.args.m.now c.run_plain-done.new.self c.stop.ensures (omega (arith, c.if-done-budget.true))
    (runs_plain c.loop-done.done c.run_plain-done.result (g.I.Source.left c.args.input.now) (g.I.Source.left c.loop-done.input)
    (g.O.Sink.sofar c.args.out.now) (g.O.Sink.sofar c.loop-done.out) c.args.m.now c.loop-done.m c.run_plain-done.new.self
    c.loop-done.invariant.runs c.run_plain-done.ensures.runs)

pub returns-then-not-is_running-clause-runs : goal.returns-then-not-is_running-clause-runs
returns-then-not-is_running-clause-runs g c =
    ended_told c.stop-then-not-is_running.result c.args.budget (c.loop-done.done + c.run_plain-done.result) (g.I.Source.left c.args.input.now) (g.I.Source.left c.loop-done.input)
    (g.O.Sink.sofar c.args.out.now) (g.O.Sink.sofar c.loop-done.out) c.args.m.now c.run_plain-done.new.self c.stop-then-not-is_running.ensures (omega (arith, c.run_plain-done.ensures.within, c.loop-done.invariant.within))
    (λ q. let z = c.if-not-is_running.ensures.1 q in cc)
    (runs_plain c.loop-done.done c.run_plain-done.result (g.I.Source.left c.args.input.now) (g.I.Source.left c.loop-done.input)
    (g.O.Sink.sofar c.args.out.now) (g.O.Sink.sofar c.loop-done.out) c.args.m.now c.loop-done.m c.run_plain-done.new.self
    c.loop-done.invariant.runs c.run_plain-done.ensures.runs)

pub returns-in-ReadFault-clause-runs : goal.returns-in-ReadFault-clause-runs
returns-in-ReadFault-clause-runs g c =
    read_fault_told c.args.budget (c.loop-done.done + c.run_plain-done.result) (g.I.Source.left c.args.input.now) (g.I.Source.left c.loop-done.input) (g.I.Source.left c.step.new.input)
    (g.O.Sink.sofar c.args.out.now) (g.O.Sink.sofar c.loop-done.out) (g.O.Sink.sofar c.step.new.out) c.args.m.now c.run_plain-done.new.self c.step.new.self
    (omega (arith, c.run_plain-done.ensures.within, c.loop-done.invariant.within, c.if-done-budget.false))
    (runs_plain c.loop-done.done c.run_plain-done.result (g.I.Source.left c.args.input.now) (g.I.Source.left c.loop-done.input)
    (g.O.Sink.sofar c.args.out.now) (g.O.Sink.sofar c.loop-done.out) c.args.m.now c.loop-done.m c.run_plain-done.new.self
    c.loop-done.invariant.runs c.run_plain-done.ensures.runs) c.in-ReadFault.ensures.changes

pub returns-in-ReadFault-clause-calls : goal.returns-in-ReadFault-clause-calls
returns-in-ReadFault-clause-calls g c =
    ran_then g.I.Source.did g.O.Sink.did c.args.input.now c.loop-done.input c.step.new.input c.args.out.now c.loop-done.out c.step.new.out (Some Input)
    c.loop-done.invariant.calls c.in-ReadFault.ensures.calls

pub returns-in-WriteFault-clause-runs : goal.returns-in-WriteFault-clause-runs
returns-in-WriteFault-clause-runs g c =
    write_fault_told c.args.budget (c.loop-done.done + c.run_plain-done.result) (g.I.Source.left c.args.input.now) (g.I.Source.left c.loop-done.input) (g.I.Source.left c.step.new.input)
    (g.O.Sink.sofar c.args.out.now) (g.O.Sink.sofar c.loop-done.out) (g.O.Sink.sofar c.step.new.out) c.args.m.now c.run_plain-done.new.self c.step.new.self
    (omega (arith, c.run_plain-done.ensures.within, c.loop-done.invariant.within, c.if-done-budget.false))
    (runs_plain c.loop-done.done c.run_plain-done.result (g.I.Source.left c.args.input.now) (g.I.Source.left c.loop-done.input)
    (g.O.Sink.sofar c.args.out.now) (g.O.Sink.sofar c.loop-done.out) c.args.m.now c.loop-done.m c.run_plain-done.new.self
    c.loop-done.invariant.runs c.run_plain-done.ensures.runs) c.in-WriteFault.ensures.changes

pub returns-in-WriteFault-clause-calls : goal.returns-in-WriteFault-clause-calls
returns-in-WriteFault-clause-calls g c =
    ran_then g.I.Source.did g.O.Sink.did c.args.input.now c.loop-done.input c.step.new.input c.args.out.now c.loop-done.out c.step.new.out (Some Out)
    c.loop-done.invariant.calls c.in-WriteFault.ensures.calls

pub loop-done-preserved : goal.loop-done-preserved
loop-done-preserved g c = record {
  within = omega (arith, c.run_plain-done.ensures.within, c.loop-done.invariant.within, c.if-done-budget.false);
  runs = runs_more (c.loop-done.done + c.run_plain-done.result) (g.I.Source.left c.args.input.now) (g.I.Source.left c.loop-done.input) (g.I.Source.left c.step.new.input)
      (g.O.Sink.sofar c.args.out.now) (g.O.Sink.sofar c.loop-done.out) (g.O.Sink.sofar c.step.new.out) c.args.m.now c.run_plain-done.new.self c.step.new.self
      (runs_plain c.loop-done.done c.run_plain-done.result (g.I.Source.left c.args.input.now) (g.I.Source.left c.loop-done.input)
      (g.O.Sink.sofar c.args.out.now) (g.O.Sink.sofar c.loop-done.out) c.args.m.now c.loop-done.m c.run_plain-done.new.self
      c.loop-done.invariant.runs c.run_plain-done.ensures.runs) c.in-Done.ensures.changes;
  unfailed_input = c.in-Done.ensures.cause.0 ∙ c.loop-done.invariant.unfailed_input;
  unfailed_out = c.in-Done.ensures.cause.1 ∙ c.loop-done.invariant.unfailed_out;
  calls = ran_then g.I.Source.did g.O.Sink.did c.args.input.now c.loop-done.input c.step.new.input c.args.out.now c.loop-done.out c.step.new.out None
      c.loop-done.invariant.calls c.in-Done.ensures.calls;
  tied = ties_more g.I.Source.did g.O.Sink.did c.args.input.now c.loop-done.input c.step.new.input c.args.out.now c.loop-done.out c.step.new.out (c.loop-done.done + c.run_plain-done.result)
      c.args.m.now c.run_plain-done.new.self c.step.new.self
      (ties_on g.I.Source.did g.O.Sink.did c.args.input.now c.loop-done.input c.args.out.now c.loop-done.out c.loop-done.done c.run_plain-done.result
      c.args.m.now c.loop-done.m c.run_plain-done.new.self c.loop-done.invariant.tied c.run_plain-done.ensures.runs) c.in-Done.ensures.tied;
}

pub returns-clause-runs : goal.returns-clause-runs
returns-clause-runs g c =
    whole_told c.stop-2.result c.args.budget c.loop-done.done (g.I.Source.left c.args.input.now) (g.I.Source.left c.loop-done.input)
    (g.O.Sink.sofar c.args.out.now) (g.O.Sink.sofar c.loop-done.out) c.args.m.now c.loop-done.m c.stop-2.ensures (omega (arith, c.loop-done.invariant.within, c.loop-done-test.false)) c.loop-done.invariant.runs

pub returns-then-done-budget-clause-tied : goal.returns-then-done-budget-clause-tied
returns-then-done-budget-clause-tied g c =
    ties_stop g.I.Source.did g.O.Sink.did c.args.input.now c.loop-done.input c.args.out.now c.loop-done.out c.stop.result (c.loop-done.done + c.run_plain-done.result) c.args.budget
    c.args.m.now c.run_plain-done.new.self c.stop.ensures (omega (arith, c.if-done-budget.true)) (λ q. omega (arith, c.if-done-budget.true))
    (ties_on g.I.Source.did g.O.Sink.did c.args.input.now c.loop-done.input c.args.out.now c.loop-done.out c.loop-done.done c.run_plain-done.result
    c.args.m.now c.loop-done.m c.run_plain-done.new.self c.loop-done.invariant.tied c.run_plain-done.ensures.runs)

pub returns-then-not-is_running-clause-tied : goal.returns-then-not-is_running-clause-tied
returns-then-not-is_running-clause-tied g c =
    ties_stop g.I.Source.did g.O.Sink.did c.args.input.now c.loop-done.input c.args.out.now c.loop-done.out c.stop-then-not-is_running.result (c.loop-done.done + c.run_plain-done.result) c.args.budget
    c.args.m.now c.run_plain-done.new.self c.stop-then-not-is_running.ensures (omega (arith, c.run_plain-done.ensures.within, c.loop-done.invariant.within))
    (λ q. let z = c.if-not-is_running.ensures.1 q in cc)
    (ties_on g.I.Source.did g.O.Sink.did c.args.input.now c.loop-done.input c.args.out.now c.loop-done.out c.loop-done.done c.run_plain-done.result
    c.args.m.now c.loop-done.m c.run_plain-done.new.self c.loop-done.invariant.tied c.run_plain-done.ensures.runs)

pub returns-in-ReadFault-clause-tied : goal.returns-in-ReadFault-clause-tied
returns-in-ReadFault-clause-tied g c =
    ties_read_fault g.I.Source.did g.O.Sink.did c.args.input.now c.loop-done.input c.step.new.input c.args.out.now c.loop-done.out c.step.new.out (c.loop-done.done + c.run_plain-done.result) c.args.budget
    c.args.m.now c.run_plain-done.new.self c.step.new.self (omega (arith, c.run_plain-done.ensures.within, c.loop-done.invariant.within, c.if-done-budget.false))
    (ties_on g.I.Source.did g.O.Sink.did c.args.input.now c.loop-done.input c.args.out.now c.loop-done.out c.loop-done.done c.run_plain-done.result
    c.args.m.now c.loop-done.m c.run_plain-done.new.self c.loop-done.invariant.tied c.run_plain-done.ensures.runs) c.in-ReadFault.ensures.tied

pub returns-in-WriteFault-clause-tied : goal.returns-in-WriteFault-clause-tied
returns-in-WriteFault-clause-tied g c =
    ties_write_fault g.I.Source.did g.O.Sink.did c.args.input.now c.loop-done.input c.step.new.input c.args.out.now c.loop-done.out c.step.new.out (c.loop-done.done + c.run_plain-done.result) c.args.budget
    c.args.m.now c.run_plain-done.new.self c.step.new.self (omega (arith, c.run_plain-done.ensures.within, c.loop-done.invariant.within, c.if-done-budget.false))
    (ties_on g.I.Source.did g.O.Sink.did c.args.input.now c.loop-done.input c.args.out.now c.loop-done.out c.loop-done.done c.run_plain-done.result
    c.args.m.now c.loop-done.m c.run_plain-done.new.self c.loop-done.invariant.tied c.run_plain-done.ensures.runs) c.in-WriteFault.ensures.tied

pub returns-clause-tied : goal.returns-clause-tied
returns-clause-tied g c =
    ties_stop g.I.Source.did g.O.Sink.did c.args.input.now c.loop-done.input c.args.out.now c.loop-done.out c.stop-2.result c.loop-done.done c.args.budget
    c.args.m.now c.loop-done.m c.stop-2.ensures c.loop-done.invariant.within (λ q. omega (arith, c.loop-done.invariant.within, c.loop-done-test.false)) c.loop-done.invariant.tied
