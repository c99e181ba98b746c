use Rattle.std.proofs.lemmas.Result.{err_from_is_err_and}
use Rattle.p9_suite.proofs.StageLemmas.{here_refused, here_went_on}
use Rattle.p9_suite.specs.Scene.{objects}
use Rattle.p9_suite.specs.Simulation.{WritesAndRuns}
use Rattle.p9_suite.specs.commands.Run.{Links}
use Rattle.p9_suite.proofs.commands.run.link_and_run.Goals as goal

pub returns-in_err-bytes : goal.returns-in_err-bytes
returns-in_err-bytes g c =
    let p = err_from_is_err_and c.from_residual.result c.from_residual.ensures.1 in
    rw (p.1, p.2) (here_refused g.I.Source.did g.O.Sink.did g.F.Files.did (objects c.args.input.now c.args.out.now c.args.files.now)
    (Links c.args.list.now) (WritesAndRuns c.args.output.now c.args.budget) c.in_err-bytes.field-0.0 c.in_err-bytes.ensures)

pub returns : goal.returns
returns g c =
    here_went_on g.I.Source.did g.O.Sink.did g.F.Files.did (objects c.args.input.now c.args.out.now c.args.files.now) (objects c.write_and_run.new.input c.write_and_run.new.out c.write_and_run.new.files)
    (Links c.args.list.now) (WritesAndRuns c.args.output.now c.args.budget) c.in_ok-bytes.bytes c.write_and_run.result c.in_ok-bytes.ensures c.write_and_run.ensures
