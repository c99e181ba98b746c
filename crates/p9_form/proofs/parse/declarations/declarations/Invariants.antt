use Rattle.std.proofs.Common.{length}
use Rattle.p9_form.proofs.ParseDeclared.{AreNoted}
use Rattle.p9_form.proofs.parse.declarations.declarations.Given as goal

abbrev pub invariant-each : goal.invariant-each
invariant-each l = AreNoted l.fn.names l.fn.cursor l.list.items l.cursor l.names

abbrev pub decreases-each : goal.decreases-each
decreases-each l = length l.cursor
