use Rattle.std.proofs.Common.{[], ◌∷◌, ◌/◌, ◌%◌, refl, ap, ◌∙◌}
use Rattle.p9_init.specs.Cells.{with_entry}
use Rattle.p9_init.proofs.Values.{number_written}
use Rattle.p9_init.proofs.value.write_byte.Goals as goal

pub returns : goal.returns
returns c =
    let word = c.args.word in
    number_written c.args.start 1 word (word / 1 % 256 ∷ []) c.args.cells.now c.write.new.cells (λ union owner symbols. refl) c.requires.within c.requires.parts
    (c.write.ensures ∙ ap (λ x. with_entry c.args.start (x ∷ []) c.args.cells.now) c.byte_cell.ensures)
