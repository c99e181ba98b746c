use Rattle.std.proofs.Common.{arith, ap, ◌∙◌, max}
use Rattle.p9_frame.specs.Sizes.{offset_of}
use Rattle.p9_frame.proofs.Offsets.{greatest-step}
use Rattle.p9_frame.proofs.sizes.greatest_named.Goals as goal

pub loop-a-preserved : goal.loop-a-preserved
loop-a-preserved c =
    greatest-step c.args.code.now c.a-item.result c.loop-a.a-index c.loop-a.greatest c.larger-greatest.result _ (omega arith) c.a-item.is
    (c.larger-greatest.ensures ∙ ap (λ z. max z c.loop-a.greatest) (c.offset_of.ensures ∙ ap offset_of c.decoded.ensures)) c.loop-a.invariant
