use Rattle.std.proofs.lemmas.Result.{err_from_is_err_and}
use Rattle.p9_suite.proofs.Programs.{program}
use Rattle.p9_suite.specs.commands.Run.{compiled, unlinked, link_no_memory}
use Rattle.p9_suite.proofs.commands.run.link.Goals as goal

pub returns-in_err-compile-in-Ok : goal.returns-in_err-compile-in-Ok
returns-in_err-compile-in-Ok c =
    let p = err_from_is_err_and c.from_residual.result c.from_residual.ensures.1 in
    rw (p.1, p.2) link_no_memory

pub returns-in_ok-compile-in-Ok : goal.returns-in_ok-compile-in-Ok
returns-in_ok-compile-in-Ok c =
    compiled c.in_ok-compile-in-Ok.field-0
    (program c.args.list.now c.in_ok-compile-in-Ok.field-0 c.requires.form c.requires.small c.in-Ok.ensures.joined c.in-Ok.ensures.joins
    c.in_ok-compile-in-Ok.ensures.stripped c.in_ok-compile-in-Ok.ensures.keeps c.in_ok-compile-in-Ok.ensures.ends)

pub returns-in-Err : goal.returns-in-Err
returns-in-Err c = unlinked c.in-Err.why c.in-Err.ensures.refused
