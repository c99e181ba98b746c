use Rattle.std.proofs.Common.{◌≡◌, List, replicate, subst, arith}
use Rattle.std.proofs.lemmas.Grind.{common_steps}
use Rattle.p9_lang.specs.Types.{tags_of, type_of}
use Rattle.p9_init.specs.declared.cell.InitCell.{InitCell}
use Rattle.p9_init.specs.declared.cell.InitCell.TheVariants.{Byte}
use Rattle.p9_tree.specs.declared.module.TEntry.{TEntry}
use Rattle.p9_init.specs.Images.{AllWritten}
use Rattle.p9_init.specs.Pieces.{MeanCells}
use Rattle.p9_init.proofs.Entering.{imaged}
use Rattle.p9_init.proofs.imaging.pieces_in.Goals as goal

pub returns-clause-image : goal.returns-clause-image
returns-clause-image c =
    let new : List InitCell = c.write_entries.new.cells in
    let start : c.deref_mut.result.now ≡ replicate c.in_ok-size.size (Byte 0) = grind (arith, common_steps) in
    let all : c.as_slice.result.now ≡ c.args.init.now.entries = grind (arith, common_steps) in
    let behind : c.deref.result.now ≡ new = grind (arith, common_steps) in
    imaged (tags_of c.args.tags.now.list) (type_of c.args.ty.now) c.args.init.now.entries c.in_ok-size.size new c.in_ok-pieces_of.field-0 c.in_ok-size.ensures.size
    (subst (λ (l : List InitCell). AllWritten c.args.init.now.entries l new) start (subst (λ (es : List TEntry). AllWritten es c.deref_mut.result.now new) all c.in_ok-write_entries.ensures.written))
    (subst (λ (l : List InitCell). MeanCells c.in_ok-pieces_of.field-0 l) behind c.in_ok-pieces_of.ensures.means)
