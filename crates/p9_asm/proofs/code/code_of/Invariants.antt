use Rattle.std.proofs.Common.{◌≡◌, ◌++◌, length}
use Rattle.p9_asm.specs.Files.{file_in}
use Rattle.p9_asm.specs.Code.{code_of}
use Rattle.p9_asm.proofs.code.code_of.Given as goal

abbrev pub invariant-loop-rest : goal.invariant-loop-rest
invariant-loop-rest l = l.list.items ++ code_of (file_in l.tables) l.function l.rest ≡ code_of (file_in l.tables) l.function l.behind

abbrev pub decreases-loop-rest : goal.decreases-loop-rest
decreases-loop-rest l = length l.rest
