use Rattle.p9_object.specs.Fields.{piece_fields}
use Rattle.p9_obj.proofs.Spelled.{spelled_next}
use Rattle.p9_obj.proofs.writer.put_pieces.Goals as goal

pub loop-piece-preserved : goal.loop-piece-preserved
loop-piece-preserved c =
    spelled_next piece_fields c.args.pieces.now c.loop-piece.piece-index c.piece-item.result c.args.out.now.items c.loop-piece.out.items _ c.loop-piece-test.true c.piece-item.is c.loop-piece.invariant c.in_ok-put_piece.ensures
