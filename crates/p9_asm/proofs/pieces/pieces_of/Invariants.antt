use Rattle.std.proofs.Common.{◌≡◌, ◌≤◌, ◌-◌, ◌++◌}
use Rattle.p9_asm.specs.Files.{file_in}
use Rattle.p9_asm.specs.Data.{bytes_in_front, pieces_from}
use Rattle.p9_asm.proofs.pieces.pieces_of.Given as goal

abbrev pub invariant-loop-place : goal.invariant-loop-place
invariant-loop-place l = record {
  pieces : l.list.items ++ bytes_in_front l.raw.items (pieces_from (file_in l.tables) l.symbol l.place (l.size - l.place)) ≡ pieces_from (file_in l.tables) l.symbol 0 l.size;
  within : l.place ≤ l.size;
}

abbrev pub decreases-loop-place : goal.decreases-loop-place
decreases-loop-place l = l.size - l.place
