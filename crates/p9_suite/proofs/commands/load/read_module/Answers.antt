use Rattle.std.proofs.lemmas.Result.{err_from_is_err_and}
use Rattle.p9_suite.proofs.StageLemmas.{store_refused, store_last}
use Rattle.p9_suite.specs.Stages.{ReadsFile}
use Rattle.p9_suite.specs.commands.Load.{TakesModule}
use Rattle.p9_suite.proofs.commands.load.read_module.Goals as goal

pub returns-in_err-bytes : goal.returns-in_err-bytes
returns-in_err-bytes g c =
    let p = err_from_is_err_and c.from_residual.result c.from_residual.ensures.1 in
    rw (p.1, p.2) (store_refused g.F.Files.did c.args.files.now c.read_file.new.files (ReadsFile c.args.name.now) (TakesModule c.args.by_name c.args.name.now) c.in_err-bytes.field-0.0 c.in_err-bytes.ensures)

pub returns : goal.returns
returns g c =
    store_last g.F.Files.did c.args.files.now c.read_file.new.files (ReadsFile c.args.name.now) (TakesModule c.args.by_name c.args.name.now)
    c.in_ok-bytes.bytes c.module_of.result c.in_ok-bytes.ensures c.module_of.ensures
