use Rattle.std.proofs.Common.{◌≡◌, ◌+◌, length}
use Rattle.p9_aout.specs.Symbols.{symbol_bytes}
use Rattle.p9_load.proofs.executable.entries_size.Given as goal

abbrev pub invariant-loop-rest : goal.invariant-loop-rest
invariant-loop-rest l = l.size + length (symbol_bytes l.rest) ≡ length (symbol_bytes l.entries)

abbrev pub decreases-loop-rest : goal.decreases-loop-rest
decreases-loop-rest l = length l.rest
