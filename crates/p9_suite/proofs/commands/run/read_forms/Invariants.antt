use Rattle.std.proofs.Common.{length}
use Rattle.p9_suite.proofs.EachFile.{HasRead}
use Rattle.p9_suite.specs.commands.Run.{ReadsForm}
use Rattle.p9_suite.proofs.commands.run.read_forms.Given as goal

abbrev pub invariant-loop-rest : goal.invariant-loop-rest
invariant-loop-rest g l = HasRead g.F.Files.did ReadsForm l.initial.files l.files l.names l.rest l.list.items

abbrev pub decreases-loop-rest : goal.decreases-loop-rest
decreases-loop-rest g l = length l.rest
