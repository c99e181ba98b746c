use Rattle.std.proofs.Common.{◌≡◌, ◌++◌, length}
use Rattle.std.specs.Prelude.{flat_map}
use Rattle.p9_abs.specs.Programs.{piece_bytes}
use Rattle.p9_image.specs.Text.{address_at}
use Rattle.p9_data.proofs.data.push_pieces.Given as goal

abbrev pub invariant-loop-rest : goal.invariant-loop-rest
invariant-loop-rest l =
    l.out.items ++ flat_map (piece_bytes (address_at l.tables l.unit)) l.rest
    ≡ l.initial.out.items ++ flat_map (piece_bytes (address_at l.tables l.unit)) l.pieces

abbrev pub decreases-loop-rest : goal.decreases-loop-rest
decreases-loop-rest l = length l.rest
