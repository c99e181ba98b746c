use Rattle.std.proofs.Common.{◌≡◌, ◌+◌, ◌++◌, [], ◌∷◌, ℕ, List, sym, ap, ◌∙◌, subst, arith, Some}
use Rattle.std.proofs.lemmas.Grind.{common_steps}
use Rattle.std.proofs.lemmas.Option.{slice_get-get_or}
use Rattle.p9_abs.specs.declared.modules.DataPiece.{DataPiece}
use Rattle.p9_abs.specs.declared.modules.DataPiece.TheVariants.{Address}
use Rattle.p9_init.specs.Pieces.{with_raw, pieces_cells}
use Rattle.p9_init.proofs.Parts.{StandsAt, at_byte, at_address, at_end}
use Rattle.p9_init.proofs.parting.pieces_of.Goals as goal

pub loop-at-preserved-in-Byte : goal.loop-at-preserved-in-Byte
loop-at-preserved-in-Byte c =
    let pushed : c.push.new.self.items ≡ c.loop-at.raw.items ++ c.in-Byte.byte ∷ [] = grind (arith, common_steps) in
    subst (λ (raw : List ℕ). StandsAt c.args.cells.now c.loop-at.pieces.items raw (c.loop-at.at + 1)) (sym pushed)
    (at_byte c.args.cells.now c.loop-at.pieces.items c.loop-at.raw.items c.loop-at.at c.in-Byte.byte c.loop-at.invariant (slice_get-get_or c.args.cells.now c.loop-at.at _ c.loop-at-test.true ∙ ap Some c.in-Byte.is))

pub loop-at-preserved : goal.loop-at-preserved
loop-at-preserved c =
    let pieces : c.in_ok-pieces-in-Part.pieces.items ≡ with_raw c.loop-at.pieces.items c.loop-at.raw.items = c.in_ok-pieces-in-Part.ensures in
    let pushed : c.push-in-Part.new.self.items ≡ c.in_ok-pieces-in-Part.pieces.items ++ Address c.in-Part.symbol c.in-Part.offset ∷ [] = grind (arith, common_steps) in
    let none : c.new-raw-in-Part.result.items ≡ [] = grind (arith, common_steps) in
    subst (λ (raw : List ℕ). StandsAt c.args.cells.now c.push-in-Part.new.self.items raw (c.loop-at.at + 4)) (sym none)
    (subst (λ (all : List DataPiece). StandsAt c.args.cells.now all [] (c.loop-at.at + 4)) (sym (pushed ∙ ap (λ (l : List DataPiece). l ++ Address c.in-Part.symbol c.in-Part.offset ∷ []) pieces))
    (at_address c.args.cells.now c.loop-at.pieces.items c.loop-at.raw.items c.loop-at.at c.in-Part.part c.in-Part.symbol c.in-Part.offset c.loop-at.invariant (slice_get-get_or c.args.cells.now c.loop-at.at _ c.loop-at-test.true ∙ ap Some c.in-Part.is)))

pub returns-clause-means : goal.returns-clause-means
returns-clause-means c union owner symbols =
    ap (pieces_cells union owner symbols) c.in_ok-list.ensures
    ∙ at_end c.args.cells.now c.loop-at.pieces.items c.loop-at.raw.items c.loop-at.at c.loop-at.invariant (omega (arith, c.loop-at-test.false)) union owner symbols
