use Rattle.std.proofs.lemmas.Result.{err_from_is_err_and}
use Rattle.p9_suite.proofs.StageLemmas.{store_refused, store_last}
use Rattle.p9_suite.specs.Stages.{ReadsFile}
use Rattle.p9_suite.specs.commands.Run.{TakesForm}
use Rattle.p9_suite.proofs.commands.run.read_form.Goals as goal

pub returns-in_err-bytes : goal.returns-in_err-bytes
returns-in_err-bytes g c =
    let p = err_from_is_err_and c.from_residual.result c.from_residual.ensures.1 in
    rw (p.1, p.2) (store_refused g.F.Files.did c.args.files.now c.read_file.new.files (ReadsFile c.args.name.now) (TakesForm c.args.name.now) c.in_err-bytes.field-0.0 c.in_err-bytes.ensures)

pub returns : goal.returns
returns g c =
    store_last g.F.Files.did c.args.files.now c.read_file.new.files (ReadsFile c.args.name.now) (TakesForm c.args.name.now)
    c.in_ok-bytes.bytes c.form_of.result c.in_ok-bytes.ensures c.form_of.ensures
