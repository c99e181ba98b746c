use Rattle.std.proofs.Common.{refl}
use Rattle.p9_lang.specs.Types.{type_of}
use Rattle.p9_numbering.specs.Told.{told_form}
use Rattle.p9_outline.specs.Told.{told_known}
use Rattle.p9_outline.proofs.Telling.{told_one_more}
use Rattle.p9_outline.proofs.summary.Names.declare.Goals as goal

pub returns : goal.returns
returns c m =
    told_one_more m _ (λ x y. refl) c.args.self.now.map.entries _ c.args.name c.with_one-known.result (told_known m c.known.result)
    (type_of c.args.ty.now) (told_form m c.args.form) c.in_ok-insert.ensures.entries (c.with_one-known.ensures m) (c.known.ensures m)
