use Rattle.std.proofs.Common.{[], ◌∷◌, ◌/◌, ◌%◌, refl, ◌∙◌}
use Rattle.p9_init.specs.Cells.{with_entry}
use Rattle.p9_init.proofs.Values.{number_written}
use Rattle.p9_init.proofs.value.write_half.Goals as goal

pub returns : goal.returns
returns c =
    let word = c.args.word in
    number_written c.args.start 2 word (word / 256 % 256 ∷ word / 1 % 256 ∷ []) c.args.cells.now c.write.new.cells (λ union owner symbols. refl) c.requires.within c.requires.parts
    (c.write.ensures ∙ λ i. with_entry c.args.start (c.byte_cell.ensures i ∷ c.byte_cell-2.ensures i ∷ []) c.args.cells.now)
