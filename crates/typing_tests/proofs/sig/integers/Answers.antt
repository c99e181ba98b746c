use Rattle.std.proofs.Common.{◌<◌, sym, subst}
use Rattle.p9_lang.specs.Types.{types_of, type_row}
use Rattle.p9_lang.specs.TagRules.{AreMentioned}
use Rattle.typing_tests.proofs.SignatureTags.{integers_push}
use Rattle.typing_tests.proofs.sig.integers.Goals as goal

pub each-preserved : goal.each-preserved
each-preserved c =
    subst (λ ts. AreMentioned (λ i. i < 0) (type_row (types_of ts))) (sym c.in_ok-push.ensures.ok) (integers_push c.each.types c.each.invariant)
