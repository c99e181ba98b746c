use Rattle.std.proofs.Common.{length}
use Rattle.p9_form.proofs.ParseBodies.{AreRead}
use Rattle.p9_form.proofs.parse.statements.statements.Given as goal

abbrev pub invariant-each : goal.invariant-each
invariant-each l = AreRead l.names l.fn.cursor l.list.items l.cursor

abbrev pub decreases-each : goal.decreases-each
decreases-each l = length l.cursor
