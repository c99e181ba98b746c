use Rattle.std.proofs.Common.{◌≡◌, ◌++◌, length}
use Rattle.p9_asm.specs.Files.{file_in}
use Rattle.p9_asm.specs.Modules.{symbols_by}
use Rattle.p9_asm.proofs.symbols.symbols_of.Given as goal

abbrev pub invariant-loop-rest : goal.invariant-loop-rest
invariant-loop-rest l = l.list.items ++ symbols_by l.tokens (file_in l.tables) l.rest ≡ symbols_by l.tokens (file_in l.tables) l.tables.names.list.items

abbrev pub decreases-loop-rest : goal.decreases-loop-rest
decreases-loop-rest l = length l.rest
