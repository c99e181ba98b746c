use Rattle.std.proofs.Common.{◌≡◌, ◌++◌, flat_map, take}
use Rattle.p9_object.specs.Fields.{piece_fields}
use Rattle.p9_object.specs.Laws.{bytes_of}
use Rattle.p9_obj.proofs.writer.put_pieces.Given as goal

abbrev pub invariant-loop-piece : goal.invariant-loop-piece
invariant-loop-piece l = l.out.items ≡ l.fn.out.items ++ bytes_of (flat_map piece_fields (take l.piece-index l.pieces))
