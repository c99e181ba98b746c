use Rattle.std.proofs.Common.{◌≡◌, ◌++◌, List, arith, ap, ◌∙◌}
use Rattle.p9_abs.specs.declared.modules.DataPiece.{DataPiece}
use Rattle.p9_asm.specs.Files.{file_in}
use Rattle.p9_asm.specs.Data.{standing, in_front, bytes_in_front}
use Rattle.p9_asm.proofs.Runs.{place_turn, place_end}
use Rattle.p9_asm.proofs.pieces.pieces_of.Goals as goal

pub loop-place-preserved : goal.loop-place-preserved
loop-place-preserved c =
    let file = file_in c.args.tables.now in
    let done = c.loop-place.list.items in
    let raw = c.loop-place.raw.items in
    let step : (ps : List DataPiece) → c.push_cell.new.pieces.items ++ bytes_in_front c.push_cell.new.raw.items ps ≡ done ++ bytes_in_front raw (in_front file (standing file c.args.symbol c.loop-place.place) ps) =
    λ ps. c.in_ok-push_cell.ensures ps ∙ ap (λ cell. done ++ bytes_in_front raw (in_front file cell ps)) (c.standing-cell.ensures ∙ ap (standing file c.args.symbol) c.from.ensures) in
    record {
      pieces = place_turn file c.args.symbol c.loop-place.place c.args.size done c.push_cell.new.pieces.items _ raw c.push_cell.new.raw.items (omega arith) step c.loop-place.invariant.pieces;
      within = omega arith;
    }

pub returns : goal.returns
returns c = c.in_ok-push_raw.ensures ∙ place_end (file_in c.args.tables.now) c.args.symbol c.loop-place.place c.args.size c.loop-place.list.items _ c.loop-place.raw.items (omega arith) c.loop-place.invariant.pieces
