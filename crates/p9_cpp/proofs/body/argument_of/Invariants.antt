use Rattle.std.proofs.Common.{◌≡◌, length}
use Rattle.p9_cpp.specs.Macros.{argument_of}
use Rattle.p9_cpp.proofs.body.argument_of.Given as goal

abbrev pub invariant-loop-names : goal.invariant-loop-names
invariant-loop-names l = argument_of l.names l.values l.name ≡ argument_of l.params l.args l.name

abbrev pub decreases-loop-names : goal.decreases-loop-names
decreases-loop-names l = length l.names
