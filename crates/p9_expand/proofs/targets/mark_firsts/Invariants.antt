use Rattle.std.proofs.Common.{ℕ, ◌≡◌, ◌<◌, ◌||◌, false, get_or, length}
use Rattle.p9_expand.specs.Program.{is_first}
use Rattle.p9_expand.proofs.targets.mark_firsts.Given as goal

abbrev pub invariant-loop-rest : goal.invariant-loop-rest
invariant-loop-rest l = (k : ℕ) → k < length l.initial.flags → get_or l.flags k false || is_first l.starts l.number l.rest k ≡ get_or l.initial.flags k false || is_first l.starts 0 l.routines k

abbrev pub decreases-loop-rest : goal.decreases-loop-rest
decreases-loop-rest l = length l.rest
