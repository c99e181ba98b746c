use Rattle.std.proofs.lemmas.Result.{err_from_is_err_and}
use Rattle.p9_suite.proofs.StageLemmas.{writes_no_name}
use Rattle.p9_suite.specs.commands.Va.{output_of}
use Rattle.p9_suite.proofs.commands.va.write_object.Goals as goal

pub returns-in_err-output-in-Derived : goal.returns-in_err-output-in-Derived
returns-in_err-output-in-Derived g c =
    let p = err_from_is_err_and c.from_residual.result c.from_residual.ensures.1 in
    rw (p.1, p.2) (writes_no_name g.F.Files.did c.args.files.now (output_of c.args.va.output c.args.va.file.now) c.args.object.now)
