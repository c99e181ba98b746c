use Rattle.std.proofs.lemmas.Result.{err_from_is_err_and}
use Rattle.std.proofs.Common.{List, ℕ, ◌∙◌, subst}
use Rattle.p9_suite.proofs.StageLemmas.{all_refused, all_went_on, on_streams}
use Rattle.p9_suite.specs.Scene.{objects}
use Rattle.p9_suite.specs.Simulation.{RunsFile}
use Rattle.p9_suite.specs.Stages.{ReadsFile, OnStreams, MakesOnStreams}
use Rattle.p9_suite.proofs.commands.vi.read_and_run.Goals as goal

pub returns-in_err-bytes : goal.returns-in_err-bytes
returns-in_err-bytes g c =
    let p = err_from_is_err_and c.from_residual.result c.from_residual.ensures.1 in
    rw (p.1, p.2) (all_refused g.I.Source.did g.O.Sink.did g.F.Files.did c.args.input.now c.args.out.now c.args.files.now c.read_file.new.files
    (ReadsFile c.args.file.now) (λ bytes. OnStreams (RunsFile c.args.file.now bytes c.args.budget)) c.in_err-bytes.field-0.0 c.in_err-bytes.ensures)

pub returns : goal.returns
returns g c =
    all_went_on g.I.Source.did g.O.Sink.did g.F.Files.did c.args.input.now c.args.out.now c.args.files.now c.read_file.new.files (objects c.run_file.new.input c.run_file.new.out c.read_file.new.files)
    (ReadsFile c.args.file.now) (λ bytes. OnStreams (RunsFile c.args.file.now bytes c.args.budget)) c.in_ok-bytes.bytes c.run_file.result c.in_ok-bytes.ensures
    (on_streams g.I.Source.did g.O.Sink.did g.F.Files.did c.args.input.now c.args.out.now c.run_file.new.input c.run_file.new.out c.read_file.new.files
    (RunsFile c.args.file.now c.in_ok-bytes.bytes c.args.budget) c.run_file.result
    (subst (λ (x : List ℕ). MakesOnStreams g.I.Source.did g.O.Sink.did c.args.input.now c.args.out.now c.run_file.new.input c.run_file.new.out (RunsFile x c.in_ok-bytes.bytes c.args.budget) c.run_file.result)
    (c.deref.ensures.value ∙ c.file.view_is) c.run_file.ensures))
