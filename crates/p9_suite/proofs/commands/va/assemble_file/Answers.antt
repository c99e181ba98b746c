use Rattle.std.proofs.lemmas.Result.{err_from_is_err_and}
use Rattle.std.proofs.Common.{Ok, Err, refl}
use Rattle.p9_suite.proofs.StageLemmas.{store_refused, store_went_on, store_last, store_here_refused, store_here_went_on}
use Rattle.p9_suite.specs.Stages.{Then, Gives, ReadsFile, WritesFile}
use Rattle.p9_suite.specs.commands.Va.{Assembles, WritesObject, output_of}
use Rattle.p9_suite.specs.declared.answer.Answer.TheVariants.{Done}
use Rattle.p9_suite.proofs.commands.va.assemble_file.Goals as goal

pub returns-in_err-text : goal.returns-in_err-text
returns-in_err-text g c =
    let p = err_from_is_err_and c.from_residual.result c.from_residual.ensures.1 in
    rw (p.1, p.2) (store_refused g.F.Files.did c.args.files.now c.read_file.new.files (ReadsFile c.args.va.file.now)
    (λ text. Then (Assembles c.args.va.file.now text) (WritesObject (output_of c.args.va.output c.args.va.file.now))) c.in_err-text.field-0.0 c.in_err-text.ensures)

pub returns-in_err-object : goal.returns-in_err-object
returns-in_err-object g c =
    let p = err_from_is_err_and c.from_residual-in_err-object.result c.from_residual-in_err-object.ensures.1 in
    rw (p.1, p.2) (store_went_on g.F.Files.did c.args.files.now c.read_file.new.files c.read_file.new.files (ReadsFile c.args.va.file.now)
    (λ text. Then (Assembles c.args.va.file.now text) (WritesObject (output_of c.args.va.output c.args.va.file.now))) c.in_ok-text.text (Err c.in_err-object.field-0.0) c.in_ok-text.ensures
    (store_here_refused g.F.Files.did c.read_file.new.files (Assembles c.args.va.file.now c.in_ok-text.text) (WritesObject (output_of c.args.va.output c.args.va.file.now)) c.in_err-object.field-0.0 c.in_err-object.ensures))

pub returns-in_err-write_object : goal.returns-in_err-write_object
returns-in_err-write_object g c =
    let p = err_from_is_err_and c.from_residual-in_err-write_object.result c.from_residual-in_err-write_object.ensures.1 in
    rw (p.1, p.2) (store_went_on g.F.Files.did c.args.files.now c.read_file.new.files c.write_object.new.files (ReadsFile c.args.va.file.now)
    (λ text. Then (Assembles c.args.va.file.now text) (WritesObject (output_of c.args.va.output c.args.va.file.now))) c.in_ok-text.text (Err c.in_err-write_object.field-0.0) c.in_ok-text.ensures
    (store_here_went_on g.F.Files.did c.read_file.new.files c.write_object.new.files (Assembles c.args.va.file.now c.in_ok-text.text) (WritesObject (output_of c.args.va.output c.args.va.file.now))
    c.in_ok-object.object (Err c.in_err-write_object.field-0.0) c.in_ok-object.ensures
    (store_refused g.F.Files.did c.read_file.new.files c.write_object.new.files (WritesFile (output_of c.args.va.output c.args.va.file.now) c.in_ok-object.object) (λ _. Gives Done) c.in_err-write_object.field-0.0 c.in_err-write_object.ensures)))

pub returns : goal.returns
returns g c =
    store_went_on g.F.Files.did c.args.files.now c.read_file.new.files c.write_object.new.files (ReadsFile c.args.va.file.now)
    (λ text. Then (Assembles c.args.va.file.now text) (WritesObject (output_of c.args.va.output c.args.va.file.now))) c.in_ok-text.text (Ok Done) c.in_ok-text.ensures
    (store_here_went_on g.F.Files.did c.read_file.new.files c.write_object.new.files (Assembles c.args.va.file.now c.in_ok-text.text) (WritesObject (output_of c.args.va.output c.args.va.file.now))
    c.in_ok-object.object (Ok Done) c.in_ok-object.ensures
    (store_last g.F.Files.did c.read_file.new.files c.write_object.new.files (WritesFile (output_of c.args.va.output c.args.va.file.now) c.in_ok-object.object) (λ _. Gives Done)
    c.in_ok-write_object.field-0 (Ok Done) c.in_ok-write_object.ensures (refl, refl)))
