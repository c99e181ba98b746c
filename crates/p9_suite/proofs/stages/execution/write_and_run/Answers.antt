use Rattle.std.proofs.lemmas.Result.{err_from_is_err_and}
use Rattle.p9_suite.proofs.StageLemmas.{all_refused, all_went_on, on_streams}
use Rattle.p9_suite.specs.Scene.{objects}
use Rattle.p9_suite.specs.Simulation.{RunsFile}
use Rattle.p9_suite.specs.Stages.{WritesFile, OnStreams}
use Rattle.p9_suite.proofs.stages.execution.write_and_run.Goals as goal

pub returns-in_err-write_file : goal.returns-in_err-write_file
returns-in_err-write_file g c =
    let p = err_from_is_err_and c.from_residual.result c.from_residual.ensures.1 in
    rw (p.1, p.2) (all_refused g.I.Source.did g.O.Sink.did g.F.Files.did c.args.input.now c.args.out.now c.args.files.now c.write_file.new.files
    (WritesFile c.args.output.now c.args.bytes.now) (λ _. OnStreams (RunsFile c.args.output.now c.args.bytes.now c.args.budget)) c.in_err-write_file.field-0.0 c.in_err-write_file.ensures)

pub returns : goal.returns
returns g c =
    all_went_on g.I.Source.did g.O.Sink.did g.F.Files.did c.args.input.now c.args.out.now c.args.files.now c.write_file.new.files (objects c.run_file.new.input c.run_file.new.out c.write_file.new.files)
    (WritesFile c.args.output.now c.args.bytes.now) (λ _. OnStreams (RunsFile c.args.output.now c.args.bytes.now c.args.budget)) c.in_ok-write_file.field-0 c.run_file.result c.in_ok-write_file.ensures
    (on_streams g.I.Source.did g.O.Sink.did g.F.Files.did c.args.input.now c.args.out.now c.run_file.new.input c.run_file.new.out c.write_file.new.files
    (RunsFile c.args.output.now c.args.bytes.now c.args.budget) c.run_file.result c.run_file.ensures)
