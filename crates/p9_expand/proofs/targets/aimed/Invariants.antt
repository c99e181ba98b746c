use Rattle.std.proofs.Common.{◌≡◌, ◌++◌, map, length}
use Rattle.p9_expand.specs.Program.{aimed}
use Rattle.p9_expand.proofs.targets.aimed.Given as goal

abbrev pub invariant-loop-rest : goal.invariant-loop-rest
invariant-loop-rest l = l.new.items ++ map (aimed l.starts) l.rest ≡ map (aimed l.starts) l.lines

abbrev pub decreases-loop-rest : goal.decreases-loop-rest
decreases-loop-rest l = length l.rest
