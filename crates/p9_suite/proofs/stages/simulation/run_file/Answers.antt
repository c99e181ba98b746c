use Rattle.p9_suite.proofs.Simulated.{simulated, not_simulated}
use Rattle.p9_suite.proofs.stages.simulation.run_file.Goals as goal

pub returns-in-Ok : goal.returns-in-Ok
returns-in-Ok g c =
    simulated g.I.Source.did g.O.Sink.did c.args.input.now c.args.out.now c.simulate-stop.new.input c.simulate-stop.new.out
    c.args.name.now c.args.file.now c.args.budget c.in-Ok.ensures.start.0 c.simulate-stop.result c.in-Ok.machine c.simulate-stop.new.m c.stop_answer.result
    c.in-Ok.ensures.start.1 c.in-Ok.ensures.start.2 c.stop_answer.ensures c.simulate-stop.ensures.stands c.simulate-stop.ensures.tied

pub returns-in-Err : goal.returns-in-Err
returns-in-Err g c =
    not_simulated g.I.Source.did g.O.Sink.did c.args.input.now c.args.out.now c.args.name.now c.args.file.now c.args.budget c.in-Err.why c.refusal.result
    c.in-Err.ensures.fault c.refusal.ensures
