use Rattle.std.proofs.Common.{◌≡◌, ◌≤◌, ◌-◌, None}
use Rattle.p9_base.specs.Streams.{StreamsRan}
use Rattle.p9_base.specs.Streams.{Told}
use Rattle.p9_vi.specs.Tied.{Ties}
use Rattle.p9_vi.proofs.Stepping.{RunsTo}
use Rattle.p9_vi.proofs.simulation.simulate.Given as goal

abbrev pub invariant-loop-done : goal.invariant-loop-done
invariant-loop-done g l = record {
  within : l.done ≤ l.fn.budget;
  runs : Told (RunsTo l.done l.fn.m l.m) (g.I.Source.left l.fn.input) (g.I.Source.left l.input) (g.O.Sink.sofar l.fn.out) (g.O.Sink.sofar l.out);
  unfailed_input : g.I.Source.faults l.input ≡ g.I.Source.faults l.fn.input;
  unfailed_out : g.O.Sink.faults l.out ≡ g.O.Sink.faults l.fn.out;
  calls : StreamsRan g.I.Source.did g.O.Sink.did l.fn.input l.fn.out l.input l.out None;
  tied : Ties g.I.Source.did g.O.Sink.did l.fn.input l.fn.out l.input l.out None (λ n. n ≡ l.done) l.fn.m l.m;
}

abbrev pub decreases-loop-done : goal.decreases-loop-done
decreases-loop-done g l = l.initial.budget - l.done
