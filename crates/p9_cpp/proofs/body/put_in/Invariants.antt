use Rattle.std.proofs.Common.{◌≡◌, ◌++◌, length}
use Rattle.p9_cpp.specs.Macros.{put_in}
use Rattle.p9_cpp.proofs.body.put_in.Given as goal

abbrev pub invariant-loop-rest : goal.invariant-loop-rest
invariant-loop-rest l = l.out ++ put_in l.params l.args l.line l.rest ≡ put_in l.params l.args l.line l.body

abbrev pub decreases-loop-rest : goal.decreases-loop-rest
decreases-loop-rest l = length l.rest
