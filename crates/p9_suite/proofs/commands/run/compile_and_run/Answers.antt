use Rattle.std.proofs.lemmas.Result.{err_from_is_err_and}
use Rattle.p9_suite.proofs.Forms.{read_form, read_small, read_count}
use Rattle.p9_suite.proofs.StageLemmas.{all_refused, all_went_on}
use Rattle.p9_suite.specs.Scene.{objects}
use Rattle.p9_suite.specs.commands.Run.{ReadsForms, LinksAndRuns}
use Rattle.p9_suite.proofs.commands.run.compile_and_run.Goals as goal

pub returns-in_err-list : goal.returns-in_err-list
returns-in_err-list g c =
    let p = err_from_is_err_and c.from_residual.result c.from_residual.ensures.1 in
    rw (p.1, p.2) (all_refused g.I.Source.did g.O.Sink.did g.F.Files.did c.args.input.now c.args.out.now c.args.files.now c.read_forms.new.files
    (ReadsForms c.args.names.now) (LinksAndRuns c.args.output.now c.args.budget) c.in_err-list.field-0.0 c.in_err-list.ensures)

pub link_and_run-requires-clause-form : goal.link_and_run-requires-clause-form
link_and_run-requires-clause-form g c = read_form g.F.Files.did c.args.files.now c.read_forms.new.files c.args.names.now c.in_ok-list.list c.in_ok-list.ensures

pub link_and_run-requires-clause-small : goal.link_and_run-requires-clause-small
link_and_run-requires-clause-small g c = read_small g.F.Files.did c.args.files.now c.read_forms.new.files c.args.names.now c.in_ok-list.list c.in_ok-list.ensures

pub link_and_run-requires-clause-count : goal.link_and_run-requires-clause-count
link_and_run-requires-clause-count g c = read_count g.F.Files.did c.args.files.now c.read_forms.new.files c.args.names.now c.in_ok-list.list c.in_ok-list.ensures c.requires

pub returns : goal.returns
returns g c =
    all_went_on g.I.Source.did g.O.Sink.did g.F.Files.did c.args.input.now c.args.out.now c.args.files.now c.read_forms.new.files (objects c.link_and_run.new.input c.link_and_run.new.out c.link_and_run.new.files)
    (ReadsForms c.args.names.now) (LinksAndRuns c.args.output.now c.args.budget) c.in_ok-list.list c.link_and_run.result c.in_ok-list.ensures c.link_and_run.ensures
