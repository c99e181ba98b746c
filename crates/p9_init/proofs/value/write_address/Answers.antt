use Rattle.std.proofs.Common.{[], ◌∷◌, ◌∙◌}
use Rattle.p9_init.specs.Cells.{with_entry}
use Rattle.p9_init.proofs.Values.{address_written}
use Rattle.p9_init.proofs.value.write_address.Goals as goal

pub returns : goal.returns
returns c size =
    address_written c.args.start size c.args.symbol c.args.offset c.args.cells.now c.write.new.cells c.requires.within c.requires.parts
    (c.write.ensures
    ∙ λ i. with_entry c.args.start (c.part_cell.ensures i ∷ c.part_cell-2.ensures i ∷ c.part_cell-3.ensures i ∷ c.part_cell-4.ensures i ∷ []) c.args.cells.now)
