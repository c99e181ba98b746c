use Rattle.std.proofs.Common.{◌≡◌, ◌++◌}
use Rattle.p9_frame.specs.Plans.{held}
use Rattle.p9_frame.specs.Emitted.{moves_of}
use Rattle.p9_frame.proofs.moves.push_held.Given as goal

abbrev pub invariant-loop-g : goal.invariant-loop-g
invariant-loop-g l = l.out.items ≡ l.initial.out.items ++ moves_of l.sizes l.offsets (held l.code l.table l.loads l.i l.g)
