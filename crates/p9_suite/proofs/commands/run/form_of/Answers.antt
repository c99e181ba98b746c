use Rattle.std.proofs.lemmas.Result.{err_from_is_err_and}
use Rattle.p9_suite.proofs.Forms.{takes, takes_not}
use Rattle.p9_suite.specs.commands.Run.{take_no_memory}
use Rattle.p9_suite.proofs.commands.run.form_of.Goals as goal

pub returns-in_err-file : goal.returns-in_err-file
returns-in_err-file c =
    let p = err_from_is_err_and c.from_residual.result c.from_residual.ensures.1 in
    rw (p.1, p.2) take_no_memory

pub returns-in_err-copied-in-None : goal.returns-in_err-copied-in-None
returns-in_err-copied-in-None c =
    let p = err_from_is_err_and c.from_residual-in_err-copied-in-None.result c.from_residual-in_err-copied-in-None.ensures.1 in
    rw (p.1, p.2) take_no_memory

pub returns-in-Some : goal.returns-in-Some
returns-in-Some c = takes c.args.name.now c.args.bytes.now c.in_ok-file.field-0 c.in-Some.file c.in-Some.is c.in_ok-file.ensures.form c.in_ok-file.ensures.small

pub returns-in_ok-copied-in-None : goal.returns-in_ok-copied-in-None
returns-in_ok-copied-in-None c = takes_not c.args.name.now c.in_ok-copied-in-None.field-0 c.args.bytes.now c.in_ok-file.field-0 c.in-None.is c.in_ok-copied-in-None.ensures c.in_ok-file.ensures.no_form
