use Rattle.std.proofs.Common.{length}
use Rattle.p9_suite.proofs.EachFile.{HasRead}
use Rattle.p9_suite.specs.commands.Load.{ReadsModule}
use Rattle.p9_suite.proofs.commands.load.read_modules.Given as goal

abbrev pub invariant-loop-rest : goal.invariant-loop-rest
invariant-loop-rest g l = HasRead g.F.Files.did (ReadsModule l.by_name) l.initial.files l.files l.names l.rest l.list.items

abbrev pub decreases-loop-rest : goal.decreases-loop-rest
decreases-loop-rest g l = length l.rest
