use Rattle.std.proofs.Common.{length}
use Rattle.p9_lang.specs.Types.{tags_of}
use Rattle.p9_operand.specs.Told.{told_least}
use Rattle.p9_verdict.proofs.Arguments.{Goes, told_of}
use Rattle.p9_verdict.proofs.calls.argument_rules.Given as goal

abbrev pub invariant-parameters : goal.invariant-parameters
invariant-parameters l = Goes (tags_of l.tags.list) (told_least l.broken) (told_of (tags_of l.tags.list) l.parameters l.arguments) l.asked l.given

abbrev pub decreases-parameters : goal.decreases-parameters
decreases-parameters l = length l.asked
