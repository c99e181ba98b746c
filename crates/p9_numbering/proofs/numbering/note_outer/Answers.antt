use Rattle.std.proofs.Common.{bytes_eq}
use Rattle.std.proofs.Common.{arith}
use Rattle.std.proofs.lemmas.Grind.{common_steps}
use Rattle.p9_numbering.proofs.Noting.{noted_new}
use Rattle.p9_numbering.proofs.numbering.note_outer.Goals as goal

pub returns-in_ok-insert : goal.returns-in_ok-insert
returns-in_ok-insert c q =
    noted_new _ c.args.outers.now c.args.name c.args.number _ c.in_ok-insert.ensures.entries (grind (arith, common_steps)) (λ k. bytes_eq q k.now)
