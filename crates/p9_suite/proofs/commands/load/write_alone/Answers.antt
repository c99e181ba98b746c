use Rattle.std.proofs.lemmas.Result.{err_from_is_err_and}
use Rattle.std.proofs.Common.{Ok, refl}
use Rattle.p9_suite.proofs.StageLemmas.{store_refused, store_last}
use Rattle.p9_suite.specs.Stages.{Gives, WritesFile}
use Rattle.p9_suite.specs.declared.answer.Answer.TheVariants.{Done}
use Rattle.p9_suite.proofs.commands.load.write_alone.Goals as goal

pub returns-in_err-write_file : goal.returns-in_err-write_file
returns-in_err-write_file g c =
    let p = err_from_is_err_and c.from_residual.result c.from_residual.ensures.1 in
    rw (p.1, p.2) (store_refused g.F.Files.did c.args.files.now c.write_file.new.files (WritesFile c.args.output.now c.args.bytes.now) (λ _. Gives Done) c.in_err-write_file.field-0.0 c.in_err-write_file.ensures)

pub returns : goal.returns
returns g c =
    store_last g.F.Files.did c.args.files.now c.write_file.new.files (WritesFile c.args.output.now c.args.bytes.now) (λ _. Gives Done)
    c.in_ok-write_file.field-0 (Ok Done) c.in_ok-write_file.ensures (refl, refl)
