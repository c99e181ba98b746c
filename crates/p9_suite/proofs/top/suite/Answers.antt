use Rattle.p9_suite.proofs.Clauses.{answered}
use Rattle.p9_suite.proofs.Every.{of_every_command}
use Rattle.p9_suite.proofs.Table.{says}
use Rattle.p9_suite.specs.Reports.{Tells}
use Rattle.p9_suite.specs.Scene.{scene, doing, telling, counts, objects}
use Rattle.p9_suite.proofs.top.suite.Goals as goal

pub returns-clause-answer : goal.returns-clause-answer
returns-clause-answer g c = answered _ c.answer-answer.result c.answer-answer.ensures c.status.ensures c.report.ensures

pub returns-clause-always : goal.returns-clause-always
returns-clause-always g c =
    of_every_command (scene (doing g.I.Source.did g.O.Sink.did g.F.Files.did) (telling g.I.Source.left g.O.Sink.sofar g.F.Files.held) (counts g.I.Source.faults g.O.Sink.faults g.F.Files.faults)
    (objects c.args.input.now c.args.out.now c.args.files.now) (objects c.answer-answer.new.input c.answer-answer.new.out c.answer-answer.new.files) c.args.words.now c.status.result
    (λ line. Tells g.E.Sink.sofar g.E.Sink.faults c.args.err.now c.report.new.sink line))
    (record { takes = g.met.I.Source.means; puts = g.met.O.Sink.means; stores = g.met.F.Files.means }) (answered _ c.answer-answer.result c.answer-answer.ensures c.status.ensures c.report.ensures)

pub returns-clause-says : goal.returns-clause-says
returns-clause-says g c =
    says (scene (doing g.I.Source.did g.O.Sink.did g.F.Files.did) (telling g.I.Source.left g.O.Sink.sofar g.F.Files.held) (counts g.I.Source.faults g.O.Sink.faults g.F.Files.faults)
    (objects c.args.input.now c.args.out.now c.args.files.now) (objects c.answer-answer.new.input c.answer-answer.new.out c.answer-answer.new.files) c.args.words.now c.status.result
    (λ line. Tells g.E.Sink.sofar g.E.Sink.faults c.args.err.now c.report.new.sink line))
    (record { takes = g.met.I.Source.means; puts = g.met.O.Sink.means; stores = g.met.F.Files.means }) (answered _ c.answer-answer.result c.answer-answer.ensures c.status.ensures c.report.ensures)
