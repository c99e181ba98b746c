use Rattle.std.proofs.Common.{◌≡◌}
use Rattle.p9_cpp.specs.Units.{in_file}
use Rattle.p9_cpp.proofs.Mapped.{mapped}
use Rattle.p9_cpp.proofs.unit.set_file.Given as goal

abbrev pub invariant-loop-t : goal.invariant-loop-t
invariant-loop-t l = l.tokens ≡ mapped (in_file l.number) l.t-index l.initial.tokens
