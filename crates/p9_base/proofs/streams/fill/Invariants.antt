use Rattle.std.proofs.Common.{length, ◌-◌, ◌≡◌, ◌≤◌, IfSome, None}
use Rattle.p9_base.specs.Streams.{HasTaken, TakesRan}
use Rattle.p9_base.proofs.Bringing.{Filling}
use Rattle.p9_base.proofs.streams.fill.Given as goal

abbrev pub invariant-loop-done : goal.invariant-loop-done
invariant-loop-done g l = record {
  within : l.done ≤ length l.room;
  taken : IfSome (g.I.Source.left l.fn.input) (λ bytes. HasTaken l.done bytes (g.I.Source.left l.input) l.fn.room l.room);
  unfailed : g.I.Source.faults l.input ≡ g.I.Source.faults l.fn.input;
  calls : TakesRan g.I.Source.did l.fn.input l.input None;
  filling : Filling g.I.Source.did l.fn.input l.input None l.done l.fn.room l.room;
}

abbrev pub decreases-loop-done : goal.decreases-loop-done
decreases-loop-done g l = length l.initial.room - l.done
