use Rattle.std.proofs.Common.{length, ◌-◌, ◌≡◌, ◌≤◌, IfSome, Some, None, take, ◌++◌}
use Rattle.p9_base.specs.Streams.{PutsRan}
use Rattle.p9_base.proofs.Bringing.{Writing}
use Rattle.p9_base.proofs.streams.put_all.Given as goal

abbrev pub invariant-loop-done : goal.invariant-loop-done
invariant-loop-done g l = record {
  within : l.done ≤ length l.piece;
  put : IfSome (g.O.Sink.sofar l.fn.out) (λ bytes. g.O.Sink.sofar l.out ≡ Some (bytes ++ take l.done l.piece));
  unfailed : g.O.Sink.faults l.out ≡ g.O.Sink.faults l.fn.out;
  calls : PutsRan g.O.Sink.did l.fn.out l.out None;
  writing : Writing g.O.Sink.did l.fn.out l.out None l.done l.piece;
}

abbrev pub decreases-loop-done : goal.decreases-loop-done
decreases-loop-done g l = length l.piece - l.done
