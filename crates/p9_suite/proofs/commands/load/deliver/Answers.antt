use Rattle.p9_suite.proofs.StageLemmas.{on_store}
use Rattle.p9_suite.specs.commands.Load.{Writes}
use Rattle.p9_suite.proofs.commands.load.deliver.Goals as goal

pub returns-in-None : goal.returns-in-None
returns-in-None g c =
    rw c.in-None.is (on_store g.I.Source.did g.O.Sink.did g.F.Files.did c.args.input.now c.args.out.now c.args.files.now c.write_alone.new.files
    (Writes c.args.request.output.now c.args.bytes.now) c.write_alone.result c.write_alone.ensures)

pub returns-in-Some : goal.returns-in-Some
returns-in-Some g c = rw c.in-Some.is c.write_and_run.ensures
