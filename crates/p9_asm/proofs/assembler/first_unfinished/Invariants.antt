use Rattle.std.proofs.Common.{◌≡◌, ◌+◌, length}
use Rattle.p9_asm.specs.Files.{file_in}
use Rattle.p9_asm.specs.Breaks.{unfinished}
use Rattle.p9_asm.specs.Assembled.{first_by}
use Rattle.p9_asm.proofs.assembler.first_unfinished.Given as goal

abbrev pub invariant-loop-rest : goal.invariant-loop-rest
invariant-loop-rest l = record {
  first : first_by (unfinished (file_in l.tables)) l.index l.rest ≡ first_by (unfinished (file_in l.tables)) 0 l.tables.rows.items;
  count : l.index + length l.rest ≡ length l.tables.rows.items;
}

abbrev pub decreases-loop-rest : goal.decreases-loop-rest
decreases-loop-rest l = length l.rest
