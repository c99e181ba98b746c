use Rattle.std.proofs.Common.{length, ◌-◌}
use Rattle.p9_steps.specs.Places.{state}
use Rattle.p9_reader.specs.Fields.{AreTaken}
use Rattle.p9_reader.proofs.fields.all_taken.Given as goal

abbrev pub invariant-loop-end : goal.invariant-loop-end
invariant-loop-end l = AreTaken l.bytes l.place.taken (state l.place.state)

abbrev pub decreases-loop-end : goal.decreases-loop-end
decreases-loop-end l = length l.bytes - l.place.taken
