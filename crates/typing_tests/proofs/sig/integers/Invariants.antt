use Rattle.std.proofs.Common.{◌<◌}
use Rattle.p9_lang.specs.Types.{types_of, type_row}
use Rattle.p9_lang.specs.TagRules.{AreMentioned}
use Rattle.typing_tests.proofs.sig.integers.Given as goal

abbrev pub invariant-each : goal.invariant-each
invariant-each l = AreMentioned (λ i. i < 0) (type_row (types_of l.types))
